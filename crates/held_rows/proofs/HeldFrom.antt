-- What the container of a row's paragraph holds from it on.
use Rattle.std.proofs.Common.{◌≡◌, ℕ, List, [], ◌∷◌, ◌++◌, map, Option, refl, ap, sym, ◌∙◌, subst, arith, eq-eqb, cond, Bool, true, eqb}
use Rattle.std.specs.Prelude.{unwrap_or}
use Rattle.std.specs.List.{flat_map, AllByRecursion as Each}
use Rattle.doc_model.specs.declared.paragraph.Par.{out-Par}
use Rattle.doc_model.specs.declared.paragraph.ParHead.{ParHead}
use Rattle.doc_model.specs.declared.paragraph.Item.{Item}
use Rattle.doc_model.specs.declared.document.Document.{Document}
use Rattle.doc_model.specs.Parts.{notes}
use Rattle.doc_model.specs.Reading.{number_of, notes_of, block_paragraphs}
use Rattle.edit_rules.specs.Places.{Held, WithContainers, is_held, from_first}
use Rattle.node_array.specs.declared.row.Row.{Row}
use Rattle.node_array.specs.declared.row.Row.TheVariants as row
use Rattle.node_array.specs.Rows.{par_rows, rows_of}
use Rattle.container_rows.specs.Standing.{IsApart, HoldsNoNotes}
use Rattle.container_rows.proofs.Spots.{own, times, times_both}
use Rattle.container_rows.proofs.Parts.{head_row, bare, text_rows, own_rows}
use Rattle.container_rows.proofs.Tests.{block_notes, par_here}
use Rattle.container_rows.proofs.Numbers.{at_most_once}
use Rattle.container_rows.proofs.Containers.{twice}
use Rattle.container_rows.proofs.Changed.{one_place}
use Rattle.held_rows.specs.HeldFrom.{held_of, IsHeldFrom}
use Rattle.held_rows.proofs.Stands.{par_containers, Stands}
use Rattle.held_rows.proofs.Found.{within_of, Found, body_found}

pub held_from_row : (doc : Document) (before : List Row) (head : ParHead) (items : List Item) (rest : List Row) → IsApart doc → rows_of doc.body ≡ before ++ row.Par head items ∷ rest
    → IsHeldFrom doc head.id (row.Par head items ∷ rest)
held_from_row doc before head items rest apart is =
    let number : ℕ = head.id.0 in
    let here : own number (row.Par head items) ≡ 1 = ap {B = ℕ} (λ (b : Bool). cond b 1 0) (eq-eqb number number refl) in
    let one : times number (rows_of doc.body) ≡ 1 = omega (arith, ap (times number) is, times_both number before (row.Par head items ∷ rest), here, at_most_once number doc apart) in
    let good : Each HoldsNoNotes (flat_map block_notes doc.body) = subst (Each HoldsNoNotes) (twice notes_of block_paragraphs doc.body) apart.notes in
    let it : Found number (rows_of doc.body) (map held_of doc.body ∷ flat_map within_of doc.body) = body_found number doc.body good one in
    let stands : Stands number (rows_of doc.body) (map held_of doc.body ∷ flat_map within_of doc.body) it.behind = it.stands in
    let numbered : eqb (number_of stands.par) number ≡ true = eq-eqb (number_of stands.par) number stands.numbered in
    let par_one = par_here number stands.par numbered in
    let more : List Row = rows_of stands.blocks ++ it.behind in
    let own_row : Row = row.Par (head_row stands.par) (map bare (out-Par stands.par).items) in
    let texts : List Row = flat_map text_rows (out-Par stands.par).items in
    let opened = ap (λ (rows : List Row). stands.front ++ (rows ++ more)) (own_rows stands.par) in
    let none_before : times number before ≡ 0 = omega (arith, ap (times number) is, one, here, times_both number before (row.Par head items ∷ rest)) in
    let none_front : times number stands.front ≡ 0 = omega (arith, ap (times number) stands.was, one, par_one, times_both number stands.front (par_rows stands.par ++ more), times_both number (par_rows stands.par) more) in
    let own_there : own number own_row ≡ 1 = ap {B = ℕ} (λ (b : Bool). cond b 1 0) numbered in
    let same = one_place number before stands.front (row.Par head items) own_row rest (texts ++ more) none_before none_front here own_there (sym is ∙ stands.was ∙ opened) in
    record {
      par = stands.par;
      blocks = stands.blocks;
      behind = it.behind;
      rows = same.1 ∙ ap (λ (rows : List Row). rows ++ more) (sym (own_rows stands.par));
      held =
          ap (λ (o : Option Held). from_first (is_held number) (unwrap_or o [])) stands.found ∙ stands.from
          ∙ ap (λ (w : WithContainers). w.held ∷ map held_of stands.blocks) (par_containers stands.par);
      ends = it.ends;
    }
