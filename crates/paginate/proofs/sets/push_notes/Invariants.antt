use Rattle.std.proofs.Common.{◌≡◌, ◌++◌, drop}
use Rattle.page_model.specs.BodyRows.{ids_of_notes}
use Rattle.paginate.proofs.sets.push_notes.Given as goal

abbrev pub invariant-loop-note : goal.invariant-loop-note
invariant-loop-note l = l.set.items ++ ids_of_notes (drop l.note-index l.notes) ≡ l.fn.set.items ++ ids_of_notes l.notes
