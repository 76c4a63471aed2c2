-- Whether a paragraph's row stands within a note.
use Rattle.std.specs.Prelude.{ℕ, ◌&&◌, ◌||◌, Bool, true, false, List, [], ◌∷◌, slice_get, Option, Some, None}
use Rattle.std.specs.Option.{option_map_or}
use Rattle.doc_model.specs.declared.paragraph.ParId.{ParId}
use Rattle.node_array.specs.declared.row.Row.{Row}
use Rattle.node_array.specs.declared.row.Row.TheVariants as row
use Rattle.node_array.specs.Places.{is_par}

-- whether one of the rows is that of the paragraph and stands within a note, where a note is open before them or not
abbrev pub is_held_in_note : ParId → Bool → List Row → Bool
is_held_in_note par within [] = false
is_held_in_note par within (row.Start head ∷ rows) = is_held_in_note par within rows
is_held_in_note par within (row.End ∷ rows) = is_held_in_note par false rows
is_held_in_note par within (row.Par head items ∷ rows) = within && is_par par (row.Par head items) || is_held_in_note par within rows
is_held_in_note par within (row.NoteText ∷ rows) = is_held_in_note par true rows

-- whether a row begins a note
abbrev pub begins_note : Row → Bool
begins_note (row.Start head) = false
begins_note row.End = false
begins_note (row.Par head items) = false
begins_note row.NoteText = true

-- whether a container, told by the place of the row that begins it, is a note
abbrev pub is_note : List Row → Option ℕ → Bool
is_note rows None = false
is_note rows (Some place) = option_map_or begins_note (slice_get rows place) false
