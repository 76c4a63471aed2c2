-- Items that are put in and taken out again.
use Rattle.std.proofs.Common.{◌≡◌, ℕ, ◌+◌, ◌-◌, ◌≤◌, Bool, true, false, List, [], ◌∷◌, ◌++◌, length, take, drop, refl, ap, ◌∙◌, arith, append_assoc, subst}
use Rattle.std.specs.Prelude.{map, filter, ◌==◌, if◌then◌else◌}
use Rattle.std.proofs.Math.Seq.{take-append_seam, drop-append_seam, drop-append-add}
use Rattle.std.proofs.lemmas.List.{take-append-drop, length-take-le, length-map, append-nil}
use Rattle.doc_model.specs.declared.paragraph.Item.{Item, roll-Item}
use Rattle.doc_model.specs.declared.paragraph.What.{roll-What}
use Rattle.doc_model.specs.declared.paragraph.What.TheOpen.{What-F}
use Rattle.doc_model.specs.declared.paragraph.What.TheViews.{out-roll-What, out-roll-Item}
use Rattle.doc_model.specs.Parts.{is_mark}
use Rattle.edit_rules.specs.Texts.{with_text, without_range, typed_item, spans_before}

cancel : (m n : ℕ) → m + n - m ≡ n
cancel m n = omega arith

-- without items that were put between others
cut : (a b c : List Item) → without_range (length a) (length a + length b) (a ++ b ++ c) ≡ a ++ filter is_mark b ++ c
cut a b c = simp (append_assoc, take-append_seam, drop-append_seam, drop-append-add, cancel)

-- no character that is typed gives a mark
no_mark_by : (spans : List (List ℕ)) (c : ℕ) (tab newline : Bool)
    → is_mark (roll-Item (record { spans = spans; what = roll-What (if tab then What-F.Tab else if newline then What-F.Break else What-F.Char c) })) ≡ false
no_mark_by spans c true newline = simp (out-roll-Item, out-roll-What)
no_mark_by spans c false true = simp (out-roll-Item, out-roll-What)
no_mark_by spans c false false = simp (out-roll-Item, out-roll-What)

no_mark_one : (spans : List (List ℕ)) (c : ℕ) → is_mark (typed_item spans c) ≡ false
no_mark_one spans c = no_mark_by spans c (c == 0x9) (c == 0xa)

no_mark : (spans : List (List ℕ)) (text : List ℕ) → filter is_mark (map (typed_item spans) text) ≡ []
no_mark spans [] = refl
no_mark spans (c ∷ cs) = simp (no_mark_one spans c, no_mark spans cs)

pub inserted_and_deleted : (at : ℕ) (text : List ℕ) (items : List Item) → at ≤ length items → without_range at (at + length text) (with_text at text items) ≡ items
inserted_and_deleted at text items few =
    let typed : List Item = map (typed_item (spans_before at items)) text in
    let front : length (take at items) ≡ at = length-take-le at items few in
    let count : length typed ≡ length text = length-map text _ in
    let P : ℕ → ℕ → Type 0 = λ m n. without_range m (m + n) (take at items ++ typed ++ drop at items) ≡ take at items ++ filter is_mark typed ++ drop at items in
    let here : P at (length text) = subst (λ n. P at n) count (subst (λ m. P m (length typed)) front (cut (take at items) typed (drop at items))) in
    here ∙ ap (λ (none : List Item). take at items ++ none ++ drop at items) (no_mark (spans_before at items) text)
    ∙ ap (λ (start : List Item). start ++ drop at items) (append-nil (take at items)) ∙ take-append-drop at items
