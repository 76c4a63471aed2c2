-- The Start rows of sections, and the End rows that close them.
use Rattle.std.specs.Prelude.{ℕ, ◌+◌, ◌-◌, ◌==◌, if◌then◌else◌, Bool, List, [], ◌∷◌}
use Rattle.std.specs.Str.{bytes_eq}
use Rattle.node_array.specs.declared.row.Row.{Row}
use Rattle.node_array.specs.declared.row.Row.TheVariants as row

-- the row with the section of this name protected or not, and hidden or not
abbrev pub with_head_set : List ℕ → Bool → Bool → Row → Row
with_head_set name protected hidden (row.Start head) = row.Start (if bytes_eq head.name name then record head { protected = protected; hidden = hidden } else head)
with_head_set name protected hidden row.End = row.End
with_head_set name protected hidden (row.Par head items) = row.Par head items
with_head_set name protected hidden row.NoteText = row.NoteText

-- how many rows stand before the one that closes what is open before them, where so many more are open
abbrev pub closing : ℕ → List Row → ℕ
closing depth [] = 0
closing depth (row.Start head ∷ rows) = closing (depth + 1) rows + 1
closing depth (row.End ∷ rows) = if depth == 0 then 0 else closing (depth - 1) rows + 1
closing depth (row.Par head items ∷ rows) = closing depth rows + 1
closing depth (row.NoteText ∷ rows) = closing (depth + 1) rows + 1
