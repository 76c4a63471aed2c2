-- The rows of the first notes behind a paragraph's row, and those of a note that is put in.
use Rattle.std.specs.Prelude.{ℕ, List, [], ◌∷◌, ◌++◌, length, take, None, zero, suc}
use Rattle.std.specs.List.{between, flat_map}
use Rattle.doc_model.specs.declared.field.NoteClass.{NoteClass}
use Rattle.doc_model.specs.declared.paragraph.Item.{Item}
use Rattle.doc_model.specs.declared.paragraph.ParHead.{ParHead}
use Rattle.doc_model.specs.declared.paragraph.What.{What}
use Rattle.doc_model.specs.declared.paragraph.What.TheOpen.{What-F}
use Rattle.doc_model.specs.declared.paragraph.Note.{Note, roll-Note}
use Rattle.doc_model.specs.declared.paragraph.Par.{Par}
use Rattle.doc_model.specs.Reading.{note_of}
use Rattle.edit_rules.specs.Texts.{with_item, without_range}
use Rattle.node_array.specs.declared.row.Row.{Row}
use Rattle.node_array.specs.declared.row.Row.TheVariants as row

-- how many notes are among items
abbrev pub note_count : List Item → ℕ
note_count items = length (flat_map note_of items)

-- the rows to the end of so many notes
abbrev pub through_notes : ℕ → List Row → List Row
through_notes zero rows = []
through_notes (suc count) [] = []
through_notes (suc count) (row.End ∷ rows) = row.End ∷ through_notes count rows
through_notes (suc count) (one ∷ rows) = one ∷ through_notes (suc count) rows

-- the rows behind so many notes
abbrev pub behind_notes : ℕ → List Row → List Row
behind_notes zero rows = rows
behind_notes (suc count) [] = []
behind_notes (suc count) (row.End ∷ rows) = behind_notes count rows
behind_notes (suc count) (one ∷ rows) = behind_notes (suc count) rows

-- a note as it stands in a row
abbrev pub note_in_row : NoteClass → List ℕ → What-F What Item Note Par
note_in_row class id = What-F.Note (roll-Note (record { id = id; class = class; pars = [] }))

-- the rows of a note with one empty paragraph of this number
abbrev pub new_rows : ℕ → List Row
new_rows number = row.NoteText ∷ row.Par (record { id = record { 0 = number }; style = []; level = 0; list = None }) [] ∷ row.End ∷ []

-- the rows of a paragraph and those behind it, with a note at a place
abbrev pub with_note : ℕ → NoteClass → List ℕ → ℕ → ParHead → List Item → List Row → List Row
with_note at class id number head items behind =
    row.Par head (with_item at (note_in_row class id) items)
    ∷ (through_notes (note_count (take at items)) behind ++ (new_rows number ++ behind_notes (note_count (take at items)) behind))

-- the rows of a paragraph and those behind it, without a range of its items but for marks
abbrev pub with_range_gone : ℕ → ℕ → ParHead → List Item → List Row → List Row
with_range_gone from to head items behind =
    row.Par head (without_range from to items)
    ∷ (through_notes (note_count (take from items)) behind ++ behind_notes (note_count (between from to items)) (behind_notes (note_count (take from items)) behind))
