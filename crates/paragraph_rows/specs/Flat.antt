-- Rows of bodies in which no note holds a note, as it is in each valid document.
use Rattle.std.specs.Prelude.{◌≡◌, ◌&&◌, not, Bool, true, false, List, [], ◌∷◌}
use Rattle.node_array.specs.declared.row.Row.{Row}
use Rattle.node_array.specs.declared.row.Row.TheVariants as row

-- whether no note begins within a note, where the rows begin within one or not
abbrev pub has_flat_notes : Bool → List Row → Bool
has_flat_notes within [] = true
has_flat_notes within (row.Start head ∷ rows) = has_flat_notes within rows
has_flat_notes within (row.End ∷ rows) = has_flat_notes false rows
has_flat_notes within (row.Par head items ∷ rows) = has_flat_notes within rows
has_flat_notes within (row.NoteText ∷ rows) = not within && has_flat_notes true rows

-- no note holds a note
abbrev pub AreFlat : List Row → Type 0
AreFlat rows = has_flat_notes false rows ≡ true
