-- What a container holds, told from rows.
use Rattle.std.specs.Prelude.{ℕ, ◌+◌, ◌-◌, ◌==◌, if◌then◌else◌, Bool, true, false, List, [], ◌∷◌, ◌++◌, Option, Some, None}
use Rattle.std.specs.Option.{option_map_or}
use Rattle.node_array.specs.declared.row.Row.{Row}
use Rattle.node_array.specs.declared.row.Row.TheVariants as row

-- what stands in the container itself, where nothing more is open
abbrev pub if_level : ℕ → Option ℕ → List (Option ℕ)
if_level depth held = if depth == 0 then held ∷ [] else []

-- what a container holds to its end, where so many more are open before the rows: paragraphs by number, and None for each section
abbrev pub held_in : ℕ → List Row → List (Option ℕ)
held_in depth [] = []
held_in depth (row.Start head ∷ rows) = if_level depth None ++ held_in (depth + 1) rows
held_in depth (row.End ∷ rows) = if depth == 0 then [] else held_in (depth - 1) rows
held_in depth (row.Par head items ∷ rows) = if_level depth (Some head.id.0) ++ held_in depth rows
held_in depth (row.NoteText ∷ rows) = held_in (depth + 1) rows

-- whether this is the paragraph of a number
abbrev pub is_number : ℕ → Option ℕ → Bool
is_number number held = option_map_or (λ other. other == number) held false

-- whether what is held begins with two paragraphs
abbrev pub begin_two : List (Option ℕ) → Bool
begin_two (Some one ∷ Some other ∷ rest) = true
begin_two held = false
