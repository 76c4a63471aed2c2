-- The rows of notes of a paragraph, told by its row and by the rows behind it.
use Rattle.std.specs.Prelude.{ℕ, List, take}
use Rattle.std.specs.List.{between}
use Rattle.doc_model.specs.declared.paragraph.Item.{Item}
use Rattle.node_array.specs.declared.row.Row.{Row}
use Rattle.paragraph_rows.specs.NoteRows.{note_count, through_notes, behind_notes}

-- those of the notes before a place
abbrev pub rows_before : ℕ → List Item → List Row → List Row
rows_before place items behind = through_notes (note_count (take place items)) behind

-- those of the notes of a range
abbrev pub rows_between : ℕ → ℕ → List Item → List Row → List Row
rows_between from to items behind = through_notes (note_count (between from to items)) (behind_notes (note_count (take from items)) behind)
