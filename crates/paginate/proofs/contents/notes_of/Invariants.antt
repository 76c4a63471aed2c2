use Rattle.std.proofs.Common.{◌≡◌, ◌++◌, drop}
use Rattle.page_model.specs.Breaking.{notes_of}
use Rattle.paginate.proofs.contents.notes_of.Given as goal

abbrev pub invariant-loop-row : goal.invariant-loop-row
invariant-loop-row l = l.notes.items ++ notes_of (drop l.row-index l.rows) ≡ notes_of l.rows
