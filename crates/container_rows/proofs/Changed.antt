-- A change of a container from a paragraph on, among the rows of a body.
use Rattle.std.proofs.Common.{◌≡◌, ℕ, ◌≤◌, Bool, true, cond, eqb, ◌||◌, List, [], ◌∷◌, ◌++◌, map, refl, ap, ap₂, sym, ◌∙◌, subst, arith, ⊎_elim, eq-eqb}
use Rattle.std.specs.List.{flat_map, list_any, AllByRecursion as Each}
use Rattle.std.proofs.lemmas.Bool.{or_right}
use Rattle.doc_model.specs.declared.block.Block.{Block}
use Rattle.doc_model.specs.declared.paragraph.Par.{Par, out-Par}
use Rattle.doc_model.specs.declared.paragraph.ParHead.{ParHead}
use Rattle.doc_model.specs.declared.paragraph.Item.{Item}
use Rattle.doc_model.specs.declared.paragraph.Note.{Note}
use Rattle.doc_model.specs.declared.document.Document.{Document}
use Rattle.doc_model.specs.Reading.{number_of, notes_of, block_paragraphs}
use Rattle.doc_model.specs.Parts.{notes}
use Rattle.edit_rules.specs.Places.{as_block, holds, note_container}
use Rattle.edit_rules.specs.Blocks.{at_paragraph}
use Rattle.node_array.specs.declared.row.Row.{Row}
use Rattle.node_array.specs.declared.row.Row.TheVariants as row
use Rattle.node_array.specs.Rows.{par_rows, rows_of}
use Rattle.container_rows.specs.Standing.{IsApart, KeepsParagraphs, CanBeMade, AreBehindAll, IsChangedFrom, HoldsNoNotes}
use Rattle.container_rows.proofs.Spots.{own, times, times_both, Spot, Inner}
use Rattle.container_rows.proofs.Parts.{head_row, bare, text_rows, own_rows}
use Rattle.container_rows.proofs.Tests.{block_notes, par_here}
use Rattle.container_rows.proofs.Notes.{Good}
use Rattle.container_rows.proofs.Containers.{twice, body_found}
use Rattle.container_rows.proofs.Numbers.{at_most_once}

all_good : (change : List Block → List Block) (number : ℕ) (some : List Note) → Each HoldsNoNotes some → (list_any (λ note. holds number (note_container note)) some ≡ true → KeepsParagraphs change)
    → Each (Good change number) some
all_good change number [] are can = tt
all_good change number (note ∷ some) are can =
    let more : Bool = list_any (λ note. holds number (note_container note)) some in
    ((are.0, λ here. can (ap (λ (b : Bool). b || more) here)), all_good change number some are.1 (λ there. can (or_right (holds number (note_container note)) more there)))

abbrev own_row : Par → Row
own_row par = row.Par (head_row par) (map bare (out-Par par).items)

-- the first row of a number stands at one place
first_own : ℕ → List Row → ℕ
first_own number [] = 0
first_own number (r ∷ rows) = own number r

behind_first : List Row → List Row
behind_first [] = []
behind_first (r ∷ rows) = rows

first_row : Row → List Row → Row
first_row r [] = r
first_row r (other ∷ rows) = other

pub one_place : (number : ℕ) (a c : List Row) (x y : Row) (b d : List Row) → times number a ≡ 0 → times number c ≡ 0 → own number x ≡ 1 → own number y ≡ 1 → a ++ x ∷ b ≡ c ++ y ∷ d → (a ≡ c) × (x ∷ b ≡ y ∷ d)
unfolding first_own behind_first first_row
one_place number [] [] x y b d none_a none_c one_x one_y e = (refl, e)
one_place number [] (z ∷ c) x y b d none_a none_c one_x one_y e = absurd (let same = ap (first_own number) e in omega (arith, same, one_x, none_c))
one_place number (z ∷ a) [] x y b d none_a none_c one_x one_y e = absurd (let same = ap (first_own number) e in omega (arith, same, one_y, none_a))
one_place number (z ∷ a) (w ∷ c) x y b d none_a none_c one_x one_y e =
    let rest = one_place number a c x y b d (omega (arith, none_a)) (omega (arith, none_c)) one_x one_y (ap behind_first e) in
    (ap₂ (λ (r : Row) (rows : List Row). r ∷ rows) (ap (first_row z) e) rest.0, rest.1)

module _ (change : List Block → List Block) (before : List Row) (head : ParHead) (items : List Item) (rest new : List Row) where
  own_here : own head.id.0 (row.Par head items) ≡ 1
  own_here = ap {B = ℕ} (λ (b : Bool). cond b 1 0) (eq-eqb head.id.0 head.id.0 refl)

  from_spot : (old behind : List Row) → times head.id.0 old ≡ 1 → old ≡ before ++ row.Par head items ∷ rest → AreBehindAll behind → Spot change head.id.0 old new behind
      → IsChangedFrom change before (row.Par head items ∷ rest) new
  from_spot old behind one is ends spot =
      let number : ℕ = head.id.0 in
      let texts : List Row = flat_map text_rows (out-Par spot.par).items in
      let more : List Row = rows_of spot.blocks ++ behind in
      let numbered : eqb (number_of spot.par) number ≡ true = eq-eqb (number_of spot.par) number spot.numbered in
      let par_one = par_here number spot.par numbered in
      let there : before ++ row.Par head items ∷ rest ≡ spot.front ++ (par_rows spot.par ++ more) = sym is ∙ spot.was in
      let opened = ap (λ (rows : List Row). spot.front ++ (rows ++ more)) (own_rows spot.par) in
      let none_before : times number before ≡ 0 = omega (arith, ap (times number) is, one, own_here, times_both number before (row.Par head items ∷ rest)) in
      let none_front : times number spot.front ≡ 0 =
      omega (arith, ap (times number) spot.was, one, par_one, times_both number spot.front (par_rows spot.par ++ more), times_both number (par_rows spot.par) more)
      in
      let own_there : own number (own_row spot.par) ≡ 1 = ap {B = ℕ} (λ (b : Bool). cond b 1 0) numbered in
      let same = one_place number before spot.front (row.Par head items) (own_row spot.par) rest (texts ++ more) none_before none_front own_here own_there (there ∙ opened) in
      record {
        par = spot.par;
        blocks = spot.blocks;
        behind = behind;
        old = same.1 ∙ ap (λ (rows : List Row). rows ++ more) (sym (own_rows spot.par));
        new = spot.is ∙ ap (λ (rows : List Row). rows ++ (rows_of (change (as_block spot.par ∷ spot.blocks)) ++ behind)) (sym same.0);
        ends = ends;
        notes = spot.notes;
      }

pub changed_when : (change : List Block → List Block) (doc : Document) (before : List Row) (head : ParHead) (items : List Item) (rest : List Row)
    → times head.id.0 (rows_of doc.body) ≤ 1 → Each HoldsNoNotes (notes doc) → CanBeMade change doc head.id → rows_of doc.body ≡ before ++ row.Par head items ∷ rest
    → IsChangedFrom change before (row.Par head items ∷ rest) (rows_of (at_paragraph head.id change doc).body)
changed_when change doc before head items rest few valid can is =
    let number : ℕ = head.id.0 in
    let new : List Row = rows_of (at_paragraph head.id change doc).body in
    let one : times number (rows_of doc.body) ≡ 1 =
    omega (arith, few, ap (times number) is, times_both number before (row.Par head items ∷ rest), own_here change before head items rest new)
    in
    let good : Each (Good change number) (flat_map block_notes doc.body) = subst (Each (Good change number)) (twice notes_of block_paragraphs doc.body) (all_good change number (notes doc) valid can) in
    ⊎_elim
    (λ (spot : Spot change number (rows_of doc.body) new []). from_spot change before head items rest new (rows_of doc.body) [] one is tt spot)
    (λ (inner : Inner change number (rows_of doc.body) new). from_spot change before head items rest new (rows_of doc.body) (row.End ∷ inner.tail) one is tt inner.spot)
    (body_found change number doc.body good one)

pub changed_from : (change : List Block → List Block) (doc : Document) (before : List Row) (head : ParHead) (items : List Item) (rest : List Row)
    → IsApart doc → CanBeMade change doc head.id → rows_of doc.body ≡ before ++ row.Par head items ∷ rest
    → IsChangedFrom change before (row.Par head items ∷ rest) (rows_of (at_paragraph head.id change doc).body)
changed_from change doc before head items rest apart can is = changed_when change doc before head items rest (at_most_once head.id.0 doc apart) apart.notes can is
