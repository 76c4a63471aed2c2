-- What holds of the rows of a document while it is edited.
use Rattle.std.specs.Prelude.{ℕ, ◌<◌, Bool, true, false, List, [], ◌∷◌}
use Rattle.std.specs.List.{flat_map, AllByRecursion as Each}
use Rattle.edit_rules.specs.Edited.{Edited}
use Rattle.node_array.specs.declared.row.Row.{Row}
use Rattle.node_array.specs.declared.row.Row.TheVariants as row
use Rattle.node_array.specs.Rows.{rows_of}
use Rattle.paragraph_rows.specs.Flat.{AreFlat}
use Rattle.paragraph_rows.specs.Standing.{number_in, AreApart}

-- no note holds a note, no two paragraphs have one number, and each number is below the next one that is given
pub record AreSound (next : ℕ) (rows : List Row) : Type 0 where
  pub flat : AreFlat rows
  pub apart : AreApart rows
  pub below : Each (λ number. number < next) (flat_map number_in rows)

-- it holds of the rows of an edited document
abbrev pub IsSound : Edited → Type 0
IsSound old = AreSound old.next (rows_of old.document.body)

-- whether a note is open behind rows, where one is open before them or not
abbrev pub is_note_open : Bool → List Row → Bool
is_note_open within [] = within
is_note_open within (row.Start head ∷ rows) = is_note_open within rows
is_note_open within (row.End ∷ rows) = is_note_open false rows
is_note_open within (row.Par head items ∷ rows) = is_note_open within rows
is_note_open within (row.NoteText ∷ rows) = is_note_open true rows
