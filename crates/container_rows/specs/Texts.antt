-- Rows of notes, and the ends of what is open.
use Rattle.std.specs.Prelude.{ℕ, ◌+◌, List, [], ◌∷◌, length, zero, suc}
use Rattle.std.specs.List.{flat_map}
use Rattle.doc_model.specs.declared.paragraph.Item.{Item}
use Rattle.doc_model.specs.Reading.{note_of}
use Rattle.node_array.specs.declared.row.Row.{Row}
use Rattle.node_array.specs.declared.row.Row.TheVariants as row

-- how many notes there are among items
abbrev pub note_count : List Item → ℕ
note_count items = length (flat_map note_of items)

-- how many rows there are up to the given count of End rows, with the last of these
abbrev pub through_ends : ℕ → List Row → ℕ
through_ends zero rows = 0
through_ends (suc count) [] = 0
through_ends (suc count) (row.Start head ∷ rows) = through_ends (suc count) rows + 1
through_ends (suc count) (row.End ∷ rows) = through_ends count rows + 1
through_ends (suc count) (row.Par head items ∷ rows) = through_ends (suc count) rows + 1
through_ends (suc count) (row.NoteText ∷ rows) = through_ends (suc count) rows + 1
