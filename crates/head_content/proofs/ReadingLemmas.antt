-- More that is read behind what was.
use Rattle.std.proofs.Common.{◌≡◌, ℕ, ◌+◌, List, [], ◌∷◌, ◌++◌, map, sym, ap, ap₂, subst, ◌∙◌, append_assoc, add_assoc, arith, Result, Ok, Err, OnOk}
use Rattle.std.specs.Prelude.{reverse}
use Rattle.std.proofs.lemmas.List.{append-nil, map-append, reverse-append}
use Rattle.load_model.specs.Blocks.{ReadContent}
use Rattle.doc_model.specs.declared.paragraph.Item.{Item}
use Rattle.doc_model.specs.declared.paragraph.What.{roll-What}
use Rattle.doc_model.specs.declared.paragraph.What.TheOpen.{What-F}
use Rattle.load_model.specs.Content.{Raw, Read, raw_character}
use Rattle.load_model.specs.Left.{Left, nothing, both}
use Rattle.element_parts.specs.Shown.{shown}
use Rattle.item_spaces.specs.Spacing.{Holds}
use Rattle.item_spaces.specs.declared.spacing.SpacedItems.{SpacedItems}
use Rattle.head_content.specs.declared.head_items.HeadItems.{HeadItems}
use Rattle.head_content.specs.Reading.{Adds, IsRead, followed, item_of, letters, nothing_read, one_raw, only_items, only_left, spaced_letter, spaced_letters}

abbrev left_of : ℕ → ℕ → Left
left_of elements attributes = record { elements = elements; attributes = attributes }

abbrev content_from : List Raw → Left → ReadContent
content_from raws left = record { raws = raws; left = left }

pub both_nothing : (left : Left) → both left nothing ≡ left
both_nothing left =
    let e : left.elements + 0 ≡ left.elements = omega arith in
    let a : left.attributes + 0 ≡ left.attributes = omega arith in
    ap₂ left_of e a

pub nothing_both : (left : Left) → both nothing left ≡ left
nothing_both left =
    let e : 0 + left.elements ≡ left.elements = omega arith in
    let a : 0 + left.attributes ≡ left.attributes = omega arith in
    ap₂ left_of e a

pub both_assoc : (x y z : Left) → both (both x y) z ≡ both x (both y z)
both_assoc x y z = ap₂ left_of (add_assoc x.elements y.elements z.elements) (add_assoc x.attributes y.attributes z.attributes)

pub follow : (x y z : ReadContent) → followed (followed x y) z ≡ followed x (followed y z)
follow x y z = ap₂ content_from (append_assoc x.raws y.raws z.raws) (both_assoc x.left y.left z.left)

pub adds_then : (first middle new : HeadItems) (xs ys : ReadContent) → Adds first middle xs → Adds middle new ys → Adds first new (followed xs ys)
adds_then first middle new xs ys a b = λ before h.
    let P : ReadContent → Type 0 = λ content. IsRead new content in
    subst P (follow before xs ys) (b (followed before xs) (a before h))

pub adds_is : (old new : HeadItems) (xs ys : ReadContent) → xs ≡ ys → Adds old new xs → Adds old new ys
adds_is old new xs ys e a = let P : ReadContent → Type 0 = λ content. Adds old new content in subst P e a

pub adds_none : (one : HeadItems) → Adds one one nothing_read
adds_none one = λ before h.
    let P : ReadContent → Type 0 = λ content. IsRead one content in
    subst P (sym (ap₂ content_from (append-nil before.raws) (both_nothing before.left))) h

pub adds_one : (old new : HeadItems) (raw : Raw) → new.left ≡ old.left → ((before : List Raw) → Holds old.items before → Holds new.items (raw ∷ before)) → Adds old new (one_raw raw)
adds_one old new raw same holds = λ before h. record {
  items_are = let P : List Raw → Type 0 = λ raws. Holds new.items raws in subst P (sym (reverse-append before.raws (raw ∷ []))) (holds (reverse before.raws) h.items_are);
  left_is = same ∙ h.left_is ∙ ap shown (sym (both_nothing before.left));
}

pub adds_left : (old new : HeadItems) (more : Left) → new.items ≡ old.items → ((before : Left) → old.left ≡ shown before → new.left ≡ shown (both before more)) → Adds old new (only_left more)
adds_left old new more same left = λ before h. record {
  items_are =
      let P : List Raw → Type 0 = λ raws. Holds old.items raws in
      let Q : SpacedItems → Type 0 = λ items. Holds items (reverse (before.raws ++ [])) in
      subst Q (sym same) (subst P (ap reverse (sym (append-nil before.raws))) h.items_are);
  left_is = left before.left h.left_is;
}

pub letters_behind : (text : List ℕ) (c : ℕ) → followed (letters text) (one_raw (raw_character [] c)) ≡ letters (text ++ c ∷ [])
letters_behind text c = ap (λ (raws : List Raw). content_from raws nothing) (sym (map-append (raw_character []) text (c ∷ [])))

pub items_behind : (first more : List Item) → followed (only_items first) (only_items more) ≡ only_items (first ++ more)
items_behind first more = ap (λ (raws : List Raw). content_from raws nothing) (sym (map-append Read first more))

pub spaced_behind : (first more : List ℕ) → followed (spaced_letters first) (spaced_letters more) ≡ spaced_letters (first ++ more)
spaced_behind first more = items_behind (map of_letter first) (map of_letter more) ∙ ap only_items (sym (map-append of_letter first more)) where
  of_letter : ℕ → Item
  of_letter c = item_of (roll-What (What-F.Char (spaced_letter c)))

-- items behind what is left out in their element
pub leaf_read : (left : Left) (items : List Item) → followed (only_left left) (only_items items) ≡ content_from (map Read items) left
leaf_read left items = ap (content_from (map Read items)) (both_nothing left)

-- the same of calls
module _ {E : Type 0} where
  pub ok_one : (result : Result (Unit {0}) E) (old new : HeadItems) (raw : Raw) → new.left ≡ old.left → OnOk result ((before : List Raw) → Holds old.items before → Holds new.items (raw ∷ before))
      → OnOk result (Adds old new (one_raw raw))
  ok_one (Ok unit) old new raw same holds = adds_one old new raw same holds
  ok_one (Err why) old new raw same holds = tt

  pub ok_then : (result : Result (Unit {0}) E) (first middle new : HeadItems) (xs ys zs : ReadContent) → followed xs ys ≡ zs → Adds first middle xs → OnOk result (Adds middle new ys) → OnOk result (Adds first new zs)
  ok_then (Ok unit) first middle new xs ys zs e a b = adds_is first new (followed xs ys) zs e (adds_then first middle new xs ys a b)
  ok_then (Err why) first middle new xs ys zs e a b = tt

  pub ok_is : (result : Result (Unit {0}) E) (old new : HeadItems) (xs ys : ReadContent) → xs ≡ ys → OnOk result (Adds old new xs) → OnOk result (Adds old new ys)
  ok_is (Ok unit) old new xs ys e a = adds_is old new xs ys e a
  ok_is (Err why) old new xs ys e a = tt
