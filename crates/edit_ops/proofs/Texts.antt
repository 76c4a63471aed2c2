-- The texts of a plain document of which one is changed: a text is put in the place of its characters between two places.
use Rattle.std.proofs.Common.{◌≡◌, ◌≢◌, ℕ, ◌+◌, ◌-◌, ◌≤◌, ◌<◌, Bool, true, false, List, [], ◌∷◌, ◌++◌, length, take, drop, refl, ap, sym, ◌∙◌, arith, inl, inr, zero, suc, Option, Some, None, set, min}
use Rattle.std.specs.Prelude.{map, if◌then◌else◌, ◌==◌, nat_lt, sum_by, slice_get}
use Rattle.std.specs.List.{AllByRecursion as Each, splice, take-map, drop-map}
use Rattle.std.proofs.lemmas.Bool.{eq-eqb, le-ltb, lt-ltb}
use Rattle.std.proofs.lemmas.Bool.Decides.{eqb_tells}
use Rattle.std.proofs.lemmas.List.{length-append, length-take-le, length-drop, map-append, set_at}
use Rattle.doc_model.specs.declared.paragraph.Item.{Item}
use Rattle.doc_model.specs.declared.block.Block.{Block, roll-Block}
use Rattle.doc_model.specs.declared.block.Block.TheOpen.{Block-F}
use Rattle.doc_model.specs.declared.refusal.Limit.TheVariants as limit
use Rattle.doc_model.specs.Chars.{IsPlainChar}
use Rattle.doc_model.specs.Plain.{plain_item, plain_paragraph, plain_blocks}
use Rattle.plain_doc.specs.PlainParts.{with_changed, text_numbered, plain_passed, ArePlainTexts}
use Rattle.plain_doc.proofs.Passed.{stands_at, sum_by-middle, plain_blocks-middle, length-plain_blocks, plain_passed-changed, Each-at}

-- a text with another one in the place of its characters between two places
abbrev pub cut : ℕ → ℕ → List ℕ → List ℕ → List ℕ
cut from to new text = splice text from to new

neq-eqb : (a b : ℕ) → (a ≡ b → ⊥) → (a == b) ≡ false
neq-eqb a b apart = elim (eqb_tells a b) [ inl e ↦ absurd (apart e.1) | inr e ↦ e.0 ]

-- a text by its number is a text by its place
pub text_numbered-at : (number here place : ℕ) (texts : List (List ℕ)) → number ≡ here + place → text_numbered number here texts ≡ slice_get texts place
text_numbered-at number here place [] e = refl
text_numbered-at number here zero (text ∷ texts) e =
    ap (λ (b : Bool). if b then Some text else text_numbered number (here + 1) texts) (eq-eqb here number (omega (arith, e)))
text_numbered-at number here (suc place) (text ∷ texts) e =
    ap (λ (b : Bool). if b then Some text else text_numbered number (here + 1) texts) (neq-eqb here number (λ same. absurd (omega (arith, e, same))))
    ∙ text_numbered-at number (here + 1) place texts (omega (arith, e))

pub text_numbered-below : (number here : ℕ) (texts : List (List ℕ)) → number < here → text_numbered number here texts ≡ None
text_numbered-below number here [] h = refl
text_numbered-below number here (text ∷ texts) h =
    ap (λ (b : Bool). if b then Some text else text_numbered number (here + 1) texts) (neq-eqb here number (λ same. absurd (omega (arith, h, same))))
    ∙ text_numbered-below number (here + 1) texts (omega (arith, h))

-- the paragraph at a place
pub slice_get-blocks : (here place : ℕ) (texts : List (List ℕ)) → slice_get texts place ≡ None → slice_get (plain_blocks here texts) place ≡ None
slice_get-blocks here place [] e = refl
slice_get-blocks here zero (text ∷ texts) e = absurd (cc)
slice_get-blocks here (suc place) (text ∷ texts) e = slice_get-blocks (here + 1) place texts e

pub slice_get-block : (number here place : ℕ) (texts : List (List ℕ)) (text : List ℕ) → number ≡ here + place → slice_get texts place ≡ Some text
    → slice_get (plain_blocks here texts) place ≡ Some (roll-Block (Block-F.Par (plain_paragraph number text)))
slice_get-block number here place [] text e found = absurd (cc)
slice_get-block number here zero (first ∷ texts) text e found =
    let same : first ≡ text = cc found in
    let place : here ≡ number = omega (arith, e) in
    ap (λ (n : ℕ). Some (roll-Block (Block-F.Par (plain_paragraph n first)))) place ∙ ap (λ (t : List ℕ). Some (roll-Block (Block-F.Par (plain_paragraph number t)))) same
slice_get-block number here (suc place) (first ∷ texts) text e found = slice_get-block number (here + 1) place texts text (omega (arith, e)) found

-- a change of items that is a change of characters
pub cut-plain : (from to : ℕ) (new text : List ℕ) → splice (map plain_item text) from to (map plain_item new) ≡ map plain_item (cut from to new text)
cut-plain from to new text =
    ap (λ (items : List Item). items ++ (map plain_item new ++ drop to (map plain_item text))) (take-map plain_item from text)
    ∙ ap (λ (items : List Item). map plain_item (take from text) ++ (map plain_item new ++ items)) (drop-map plain_item to text)
    ∙ ap (λ (items : List Item). map plain_item (take from text) ++ items) (sym (map-append plain_item new (drop to text)))
    ∙ sym (map-append plain_item (take from text) (new ++ drop to text))

pub length-cut : (from to : ℕ) (new text : List ℕ) → from ≤ to → to ≤ length text → length (cut from to new text) + (to - from) ≡ length text + length new
length-cut from to new text order within =
    omega (arith, length-append (take from text) (new ++ drop to text), length-append new (drop to text), length-take-le from text (omega (arith, order, within)), length-drop to text)

-- the texts when one of them is changed
pub sum-changed : (number : ℕ) (new : List ℕ → List ℕ) (texts : List (List ℕ)) (text : List ℕ) → text_numbered number 1 texts ≡ Some text
    → sum_by (length {A = ℕ}) (with_changed number new 1 texts) + length text ≡ sum_by (length {A = ℕ}) texts + length (new text)
sum-changed number new texts text found =
    let at = stands_at number 1 new texts text found in
    omega (arith, ap (sum_by (length {A = ℕ})) at.changed, ap (sum_by (length {A = ℕ})) at.whole, sum_by-middle at.before text at.after, sum_by-middle at.before (new text) at.after)

-- the text of a number is one of the texts
pub text-within : (number : ℕ) (texts : List (List ℕ)) (text : List ℕ) → text_numbered number 1 texts ≡ Some text → ArePlainTexts texts
    → (1 ≤ number) × (number ≤ length texts) × (length text ≤ 32768) × (length text ≤ sum_by (length {A = ℕ}) texts)
text-within number texts text found within =
    let at = stands_at number 1 (λ t. t) texts text found in (
      omega (arith, at.place),
      omega (arith, at.place, ap (length {A = List ℕ}) at.whole, length-append at.before (text ∷ at.after)),
      Each-at (λ t. length t ≤ 32768) at.before text at.after (subst_each at.whole within.items_of_paragraph),
      omega (arith, ap (sum_by (length {A = ℕ})) at.whole, sum_by-middle at.before text at.after),
    ) where
      subst_each : {xs ys : List (List ℕ)} → xs ≡ ys → Each (λ (t : List ℕ). length t ≤ 32768) xs → Each (λ (t : List ℕ). length t ≤ 32768) ys
      subst_each e each = Rattle.std.proofs.Common.subst (Each (λ (t : List ℕ). length t ≤ 32768)) e each

-- the blocks when the text of one of them is changed
pub blocks-changed : (number : ℕ) (new : List ℕ → List ℕ) (texts : List (List ℕ)) (text : List ℕ) → text_numbered number 1 texts ≡ Some text
    → set (plain_blocks 1 texts) (number - 1) (roll-Block (Block-F.Par (plain_paragraph number (new text)))) ≡ plain_blocks 1 (with_changed number new 1 texts)
blocks-changed number new texts text found =
    let at = stands_at number 1 new texts text found in
    let place : length (plain_blocks 1 at.before) ≡ number - 1 = omega (arith, at.place, length-plain_blocks 1 at.before) in
    let block : ℕ → List ℕ → Block = λ n t. roll-Block (Block-F.Par (plain_paragraph n t)) in
    let after : ℕ → List Block = λ n. plain_blocks (n + 1) at.after in
    ap (λ (ts : List (List ℕ)). set (plain_blocks 1 ts) (number - 1) (block number (new text))) at.whole
    ∙ ap (λ (blocks : List Block). set blocks (number - 1) (block number (new text))) (plain_blocks-middle 1 at.before text at.after)
    ∙ set_at (plain_blocks 1 at.before) (block (1 + length at.before) text) (after (1 + length at.before)) (block number (new text)) (number - 1) place
    ∙ ap (λ (n : ℕ). plain_blocks 1 at.before ++ (block n (new text) ∷ after (1 + length at.before))) (sym at.place)
    ∙ sym (plain_blocks-middle 1 at.before (new text) at.after)
    ∙ ap (plain_blocks 1) (sym at.changed)

-- the characters of changed texts
Each-append : (xs ys : List ℕ) → Each IsPlainChar xs → Each IsPlainChar ys → Each IsPlainChar (xs ++ ys)
Each-append [] ys left right = right
Each-append (x ∷ xs) ys left right = (left.0, Each-append xs ys left.1 right)

Each-take : (n : ℕ) (xs : List ℕ) → Each IsPlainChar xs → Each IsPlainChar (take n xs)
Each-take zero xs each = tt
Each-take (suc n) [] each = tt
Each-take (suc n) (x ∷ xs) each = (each.0, Each-take n xs each.1)

Each-drop : (n : ℕ) (xs : List ℕ) → Each IsPlainChar xs → Each IsPlainChar (drop n xs)
Each-drop zero xs each = each
Each-drop (suc n) [] each = tt
Each-drop (suc n) (x ∷ xs) each = Each-drop n xs each.1

Each-either : (b : Bool) (left right : List ℕ) → Each IsPlainChar left → Each IsPlainChar right → Each IsPlainChar (if b then left else right)
Each-either true left right l r = l
Each-either false left right l r = r

pub Each-changed : (number here from to : ℕ) (new : List ℕ) (texts : List (List ℕ)) → Each IsPlainChar new → Each (Each IsPlainChar) texts → Each (Each IsPlainChar) (with_changed number (cut from to new) here texts)
Each-changed number here from to new [] plain each = tt
Each-changed number here from to new (text ∷ texts) plain each = (
  Each-either (here == number) (cut from to new text) text
      (Each-append (take from text) (new ++ drop to text) (Each-take from text each.0) (Each-append new (drop to text) plain (Each-drop to text each.0))) each.0,
  Each-changed number (here + 1) from to new texts plain each.1,
)

-- which limit a change passes
pub passed-paragraph : (number from to : ℕ) (new : List ℕ) (texts : List (List ℕ)) (text : List ℕ) → ArePlainTexts texts → text_numbered number 1 texts ≡ Some text
    → from ≤ to → to ≤ length text → 32768 + (to - from) < length text + length new
    → plain_passed (with_changed number (cut from to new) 1 texts) ≡ Some limit.ItemsOfParagraph
passed-paragraph number from to new texts text within found order end many =
    plain_passed-changed number (cut from to new) texts text within found
    ∙ ap (λ (b : Bool). if b then Some limit.ItemsOfParagraph else if nat_lt (4194304 + length text) (sum_by (length {A = ℕ}) texts + length (cut from to new text)) then Some limit.Items else None)
    (lt-ltb 32768 (length (cut from to new text)) (omega (arith, length-cut from to new text order end, many)))

pub passed-items : (number from to : ℕ) (new : List ℕ) (texts : List (List ℕ)) (text : List ℕ) → ArePlainTexts texts → text_numbered number 1 texts ≡ Some text
    → from ≤ to → to ≤ length text → length text + length new ≤ 32768 + (to - from) → 4194304 + (to - from) < sum_by (length {A = ℕ}) texts + length new
    → plain_passed (with_changed number (cut from to new) 1 texts) ≡ Some limit.Items
passed-items number from to new texts text within found order end few many =
    plain_passed-changed number (cut from to new) texts text within found
    ∙ ap (λ (b : Bool). if b then Some limit.ItemsOfParagraph else if nat_lt (4194304 + length text) (sum_by (length {A = ℕ}) texts + length (cut from to new text)) then Some limit.Items else None)
    (le-ltb 32768 (length (cut from to new text)) (omega (arith, length-cut from to new text order end, few)))
    ∙ ap (λ (b : Bool). if b then Some limit.Items else None)
    (lt-ltb (4194304 + length text) (sum_by (length {A = ℕ}) texts + length (cut from to new text)) (omega (arith, length-cut from to new text order end, many)))

pub passed-none : (number from to : ℕ) (new : List ℕ) (texts : List (List ℕ)) (text : List ℕ) → ArePlainTexts texts → text_numbered number 1 texts ≡ Some text
    → from ≤ to → to ≤ length text → length text + length new ≤ 32768 + (to - from) → sum_by (length {A = ℕ}) texts + length new ≤ 4194304 + (to - from)
    → plain_passed (with_changed number (cut from to new) 1 texts) ≡ None
passed-none number from to new texts text within found order end few less =
    plain_passed-changed number (cut from to new) texts text within found
    ∙ ap (λ (b : Bool). if b then Some limit.ItemsOfParagraph else if nat_lt (4194304 + length text) (sum_by (length {A = ℕ}) texts + length (cut from to new text)) then Some limit.Items else None)
    (le-ltb 32768 (length (cut from to new text)) (omega (arith, length-cut from to new text order end, few)))
    ∙ ap (λ (b : Bool). if b then Some limit.Items else None)
    (le-ltb (4194304 + length text) (sum_by (length {A = ℕ}) texts + length (cut from to new text)) (omega (arith, length-cut from to new text order end, less)))
