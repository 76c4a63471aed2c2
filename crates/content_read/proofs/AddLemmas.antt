-- What is added one after another.
use Rattle.std.proofs.Common.{◌≡◌, ℕ, Result, Ok, Err, IfOk, ◌+◌, List, [], ◌∷◌, ◌++◌, map, sym, ap, subst, ◌∙◌, append_assoc, replicate}
use Rattle.std.specs.Prelude.{reverse}
use Rattle.std.proofs.lemmas.List.{reverse-append, map-append, replicate_more}
use Rattle.load_model.specs.Blocks.{ReadContent}
use Rattle.load_model.specs.Content.{Raw, Read}
use Rattle.doc_model.specs.declared.paragraph.Item.{Item}
use Rattle.element_parts.specs.declared.left.LeftOut.{LeftOut}
use Rattle.item_spaces.specs.Spacing.{Holds}
use Rattle.item_spaces.specs.declared.spacing.SpacedItems.{SpacedItems}
use Rattle.content_read.specs.Adds.{Gains, Adds}

-- nothing, and more
pub gains_none : (all : SpacedItems) → Gains all all []
gains_none all = λ before holds. holds

pub gains_then : (first middle last : SpacedItems) (xs ys : List Raw) → Gains first middle xs → Gains middle last ys → Gains first last (xs ++ ys)
gains_then first middle last xs ys one two = λ before holds.
    subst (λ (all : List Raw). Holds last all) (sym (append_assoc (reverse ys) (reverse xs) before) ∙ ap (λ (all : List Raw). all ++ before) (sym (reverse-append xs ys)))
    (two (reverse xs ++ before) (one before holds))

pub gains_is : (old new : SpacedItems) (xs ys : List Raw) → xs ≡ ys → Gains old new xs → Gains old new ys
gains_is old new xs ys e gains = subst (λ (raws : List Raw). Gains old new raws) e gains

pub gains_one : (first middle last : SpacedItems) (xs : List Raw) (x : Raw) → Gains first middle xs → ((before : List Raw) → Holds middle before → Holds last (x ∷ before)) → Gains first last (xs ++ x ∷ [])
gains_one first middle last xs x one two = gains_then first middle last xs (x ∷ []) one two

-- one more of the same
pub same_more : (item : Item) (count : ℕ) → map Read (replicate count item) ++ Read item ∷ [] ≡ map Read (replicate (count + 1) item)
same_more item count = sym (map-append Read (replicate count item) (item ∷ [])) ∙ ap (map Read) (replicate_more count item)

-- content is told by its parts
pub adds_is : (old new : SpacedItems) (left : LeftOut) (read other : ReadContent) → read ≡ other → Adds old new left read → Adds old new left other
adds_is old new left read other e adds = subst (λ (content : ReadContent). Adds old new left content) e adds

-- what follows from an answer
pub if_ok : {X E : Type 0} (result : Result X E) (P Q : X → Type 0) → ((x : X) → P x → Q x) → IfOk result P → IfOk result Q
if_ok (Ok x) P Q step p = step x p
if_ok (Err e) P Q step p = p
