-- Walks along rows that stay within one container.
use Rattle.std.specs.Prelude.{ℕ, ◌+◌, ◌-◌, ◌==◌, ◌&&◌, ◌||◌, if◌then◌else◌, not, Bool, true, false, List, [], ◌∷◌, Option, Some, None, is_some}
use Rattle.std.specs.Option.{option_map_or}
use Rattle.node_array.specs.declared.row.Row.{Row}
use Rattle.node_array.specs.declared.row.Row.TheVariants as row
use Rattle.level_rows.specs.Level.{is_number}

-- how many more are open behind a row than in the container, or none where the row ends it, or where a section begins in it that may not be passed
abbrev pub depth_behind : Bool → ℕ → Row → Option ℕ
depth_behind sections depth (row.Start head) = if sections || not (depth == 0) then Some (depth + 1) else None
depth_behind sections depth row.End = if depth == 0 then None else Some (depth - 1)
depth_behind sections depth (row.Par head items) = Some depth
depth_behind sections depth row.NoteText = Some (depth + 1)

-- whether a walk along rows stays in the container and ends in it, where so many more are open before the rows
abbrev pub stays : Bool → ℕ → List Row → Bool
stays sections depth [] = depth == 0
stays sections depth (r ∷ rows) = option_map_or (λ behind. stays sections behind rows) (depth_behind sections depth r) false

-- whether what is held comes to the paragraph of a number, past sections or past paragraphs alone
abbrev pub comes_to : Bool → ℕ → List (Option ℕ) → Bool
comes_to sections number [] = false
comes_to sections number (held ∷ rest) = is_number number held || (sections || is_some held) && comes_to sections number rest

-- whether a row is that of a paragraph which the container itself holds
abbrev pub is_held_here : ℕ → Row → Bool
is_held_here depth (row.Start head) = false
is_held_here depth row.End = false
is_held_here depth (row.Par head items) = depth == 0
is_held_here depth row.NoteText = false

-- whether what is held begins with a paragraph
abbrev pub begins_with_one : List (Option ℕ) → Bool
begins_with_one [] = false
begins_with_one (None ∷ rest) = false
begins_with_one (Some number ∷ rest) = true

-- whether a row is that of a paragraph, or begins a section, which the container itself holds
abbrev pub is_one_held : ℕ → Row → Bool
is_one_held depth (row.Start head) = depth == 0
is_one_held depth row.End = false
is_one_held depth (row.Par head items) = depth == 0
is_one_held depth row.NoteText = false

-- whether nothing is held
abbrev pub is_nothing : List (Option ℕ) → Bool
is_nothing [] = true
is_nothing (held ∷ rest) = false
