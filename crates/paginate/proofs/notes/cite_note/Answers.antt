use Rattle.std.proofs.Common.{◌≡◌, ◌++◌, ap, sym, ◌∙◌, arith, List, set, get_or}
use Rattle.page_model.specs.declared.row.Row.{Row}
use Rattle.page_model.specs.declared.row.NoteRow.{NoteRow}
use Rattle.page_model.specs.declared.placed.NotePar.{NotePar}
use Rattle.page_model.specs.BodyRows.{rows_of_note}
use Rattle.paginate.specs.Uncited.{with_notes}
use Rattle.paginate.proofs.RowLemmas.{added-past, added-set}
use Rattle.paginate.proofs.notes.cite_note.Goals as goal

pub returns-then-line-len : goal.returns-then-line-len
returns-then-line-len c =
    rw c.in-Some.is (sym (added-past c.in-Some.line (rows_of_note c.args.place c.args.note.now.pars) c.args.rows.now.items (omega arith)))

pub returns : goal.returns
returns c =
    let rows = c.args.rows.now.items in
    let line = c.in-Some.line in
    let row = c.index_mut.result.now in
    let more = rows_of_note c.args.place c.args.note.now.pars in
    let is_row : row ≡ get_or rows line row = c.index_mut.ensures.value in
    let pushed : c.push_note.new.rows ≡ row.notes ++ rows_of_note c.args.place c.get.result.now = c.in_ok-push_note.ensures in
    let notes : c.push_note.new.rows ≡ row.notes ++ more = pushed ∙ ap (λ (pars : List NotePar). row.notes ++ rows_of_note c.args.place pars) c.get.ensures in
    rw c.in-Some.is
    (ap (λ (l : List NoteRow). set rows line (record row { notes = l })) notes ∙ ap (λ (r : Row). set rows line (with_notes more r)) is_row ∙ added-set line more rows row (omega arith))
