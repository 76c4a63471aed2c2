-- Paragraphs at the front of their containers.
use Rattle.std.specs.Prelude.{ℕ, ◌==◌, ◌&&◌, ◌||◌, Bool, true, false, List, [], ◌∷◌}
use Rattle.edit_rules.specs.Places.{Held, is_held}
use Rattle.node_array.specs.declared.row.Row.{Row}
use Rattle.node_array.specs.declared.row.Row.TheVariants as row

-- whether a container begins with the paragraph of a number
abbrev pub begins_with : ℕ → Held → Bool
begins_with number [] = false
begins_with number (held ∷ rest) = is_held number held

-- whether the row of a paragraph stands at the front of a container: behind the row that begins one, or first of these rows, where they begin one
abbrev pub is_front : Bool → ℕ → List Row → Bool
is_front fresh number [] = false
is_front fresh number (row.Start head ∷ rows) = is_front true number rows
is_front fresh number (row.End ∷ rows) = is_front false number rows
is_front fresh number (row.Par head items ∷ rows) = fresh && head.id.0 == number || is_front false number rows
is_front fresh number (row.NoteText ∷ rows) = is_front true number rows
