use Rattle.std.proofs.Common.{◌≡◌, ◌++◌, drop, map}
use Rattle.paginate.proofs.contents.push_note_texts.Given as goal

abbrev pub invariant-loop-note : goal.invariant-loop-note
invariant-loop-note l = l.texts ++ map (λ note. note.text) (drop l.note-index l.notes) ≡ l.fn.texts ++ map (λ note. note.text) l.notes
