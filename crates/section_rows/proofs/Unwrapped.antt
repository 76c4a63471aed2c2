-- The Start row of a section, and what its unwrapping comes to.
use Rattle.std.proofs.Common.{◌≡◌, ◌≢◌, ℕ, ◌+◌, Bool, cond, List, [], ◌∷◌, ◌++◌, map, length, take, drop, refl, ap, ap₂, sym, ◌∙◌, arith}
use Rattle.std.proofs.lemmas.Slice.Eq.{bytes_eq-Decides}
use Rattle.std.proofs.lemmas.List.{take_at, drop_at, drop-drop}
use Rattle.doc_model.specs.declared.edit.EditOp.TheVariants.{UnwrapSection}
use Rattle.doc_model.specs.declared.document.Document.{Document}
use Rattle.doc_model.specs.Parts.{sections}
use Rattle.doc_model.specs.Valid.{AreNamesOrNone}
use Rattle.edit_rules.specs.Edited.{edited_document}
use Rattle.node_array.specs.declared.row.Row.{Row}
use Rattle.node_array.specs.declared.row.SectionHead.{SectionHead}
use Rattle.node_array.specs.declared.row.Row.TheVariants as row
use Rattle.node_array.specs.Rows.{rows_of}
use Rattle.section_rows.specs.Starts.{closing}
use Rattle.section_rows.proofs.Flat.{closing_place}
use Rattle.section_rows.proofs.Names.{begins, starts, starts_both, at_most_once}
use Rattle.section_rows.proofs.Unwrap.{Unwraps, body_unwraps}

first_begins : List ℕ → List Row → ℕ
first_begins name [] = 0
first_begins name (r ∷ rows) = begins name r

behind_first : List Row → List Row
behind_first [] = []
behind_first (r ∷ rows) = rows

first_row : Row → List Row → Row
first_row r [] = r
first_row r (other ∷ rows) = other

-- the first row of a name stands at one place
pub one_place : (name : List ℕ) (a c : List Row) (x y : Row) (b d : List Row) → starts name a ≡ 0 → starts name c ≡ 0 → begins name x ≡ 1 → begins name y ≡ 1 → a ++ x ∷ b ≡ c ++ y ∷ d → (a ≡ c) × (b ≡ d)
unfolding first_begins behind_first first_row
one_place name [] [] x y b d none_a none_c one_x one_y e = (refl, ap behind_first e)
one_place name [] (z ∷ c) x y b d none_a none_c one_x one_y e = absurd (let same = ap (first_begins name) e in omega (arith, same, one_x, none_c))
one_place name (z ∷ a) [] x y b d none_a none_c one_x one_y e = absurd (let same = ap (first_begins name) e in omega (arith, same, one_y, none_a))
one_place name (z ∷ a) (w ∷ c) x y b d none_a none_c one_x one_y e =
    let rest = one_place name a c x y b d (omega (arith, none_a)) (omega (arith, none_c)) one_x one_y (ap behind_first e) in
    (ap₂ (λ (r : Row) (rows : List Row). r ∷ rows) (ap (first_row z) e) rest.0, rest.1)

pub named_once : (head : SectionHead) → begins head.name (row.Start head) ≡ 1
named_once head = ap {B = ℕ} (λ (b : Bool). cond b 1 0) ((bytes_eq-Decides head.name head.name).1 refl)

pub one_start : (doc : Document) (before : List Row) (head : SectionHead) (rest : List Row) → AreNamesOrNone (map (λ section. section.name) (sections doc)) → head.name ≢ []
    → rows_of doc.body ≡ before ++ row.Start head ∷ rest → starts head.name (rows_of doc.body) ≡ 1
one_start doc before head rest names given is =
    omega (arith, ap (starts head.name) is, starts_both head.name before (row.Start head ∷ rest), named_once head, at_most_once head.name given doc names)

pub unwrapped_among : (next : ℕ) (doc : Document) (before : List Row) (head : SectionHead) (rest : List Row) → AreNamesOrNone (map (λ section. section.name) (sections doc)) → head.name ≢ []
    → rows_of doc.body ≡ before ++ row.Start head ∷ rest
    → rows_of (edited_document next (UnwrapSection head.name) doc).body ≡ before ++ (take (closing 0 rest) rest ++ drop (closing 0 rest + 1) rest)
unwrapped_among next doc before head rest names given is =
    let name : List ℕ = head.name in
    let one : starts name (rows_of doc.body) ≡ 1 = one_start doc before head rest names given is in
    let it : Unwraps name (rows_of doc.body) (rows_of (edited_document next (UnwrapSection head.name) doc).body) = body_unwraps name doc.body one in
    let inside : List Row = rows_of it.blocks in
    let named : begins name (row.Start it.head) ≡ 1 = ap {B = ℕ} (λ (b : Bool). cond b 1 0) it.named in
    let none_before : starts name before ≡ 0 = omega (arith, ap (starts name) is, starts_both name before (row.Start head ∷ rest), named_once head, one) in
    let none_front : starts name it.front ≡ 0 = omega (arith, ap (starts name) it.was, starts_both name it.front (row.Start it.head ∷ (inside ++ row.End ∷ it.behind)), named, one) in
    let same = one_place name before it.front (row.Start head) (row.Start it.head) rest (inside ++ row.End ∷ it.behind) none_before none_front (named_once head) named (sym is ∙ it.was) in
    let goal : List Row → List Row = λ rows. before ++ (take (closing 0 rows) rows ++ drop (closing 0 rows + 1) rows) in
    it.is ∙ ap (λ (rows : List Row). rows ++ (inside ++ it.behind)) (sym same.0)
    ∙ ap (λ (rows : List Row). before ++ rows) (cut (rows_of it.blocks) it.behind (closing 0 (inside ++ row.End ∷ it.behind)) (closing_place it.blocks it.behind))
    ∙ ap goal (sym same.1) where
      cut : (inside behind : List Row) (at : ℕ) → at ≡ length inside → inside ++ behind ≡ take at (inside ++ row.End ∷ behind) ++ drop (at + 1) (inside ++ row.End ∷ behind)
      cut inside behind at is =
          ap₂ (λ (a b : List Row). a ++ b) (sym (take_at inside (row.End ∷ behind) at (sym is)))
          (sym (sym (drop-drop 1 at (inside ++ row.End ∷ behind)) ∙ ap (drop 1) (drop_at inside (row.End ∷ behind) at (sym is))))
