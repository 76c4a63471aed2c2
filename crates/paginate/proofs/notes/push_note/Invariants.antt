use Rattle.std.proofs.Common.{◌≡◌, ◌+◌, ◌++◌, drop}
use Rattle.page_model.specs.BodyRows.{rows_of_note}
use Rattle.paginate.proofs.notes.push_note.Given as goal

abbrev pub invariant-pars : goal.invariant-pars
invariant-pars l = l.rows ++ rows_of_note (l.place + l.index) (drop l.index l.pars) ≡ l.fn.rows ++ rows_of_note l.place l.pars
