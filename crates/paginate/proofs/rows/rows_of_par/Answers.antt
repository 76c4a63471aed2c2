use Rattle.std.proofs.Common.{◌∙◌, ap, List}
use Rattle.page_model.specs.declared.row.Row.{Row}
use Rattle.page_model.specs.declared.placed.NoteRows.{NoteRows}
use Rattle.paginate.specs.Uncited.{cited}
use Rattle.paginate.proofs.RowLemmas.{rows-cited}
use Rattle.paginate.proofs.rows.rows_of_par.Goals as goal

pub returns : goal.returns
returns c =
    c.in_ok-cite_notes.ensures
    ∙ ap (λ (notes : List NoteRows). cited c.args.place notes c.in_ok-rows.rows.items) c.get.ensures
    ∙ ap (λ (rows : List Row). cited c.args.place c.args.par.now.notes rows) c.in_ok-rows.ensures
    ∙ rows-cited c.args.masters.now c.args.place c.args.par.now
