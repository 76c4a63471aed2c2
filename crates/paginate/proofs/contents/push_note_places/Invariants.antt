use Rattle.std.proofs.Common.{◌≡◌, ◌++◌, drop}
use Rattle.std.specs.List.{filter_map}
use Rattle.paginate.proofs.contents.push_note_places.Given as goal

abbrev pub invariant-loop-note : goal.invariant-loop-note
invariant-loop-note l = l.places ++ filter_map (λ row. row.place) (drop l.note-index l.notes) ≡ l.fn.places ++ filter_map (λ row. row.place) l.notes
