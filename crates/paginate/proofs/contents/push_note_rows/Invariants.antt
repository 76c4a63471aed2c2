use Rattle.std.proofs.Common.{◌≡◌, ◌++◌, drop}
use Rattle.paginate.proofs.contents.push_note_rows.Given as goal

abbrev pub invariant-loop-note : goal.invariant-loop-note
invariant-loop-note l = l.notes.items ++ drop l.note-index l.more ≡ l.fn.notes.items ++ l.more
