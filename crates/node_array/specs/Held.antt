-- What a list of rows with their tags and depths holds.
use Rattle.std.specs.Prelude.{◌≡◌, ℕ, ◌+◌, ◌-◌, List, [], ◌∷◌, map, Option, Some, None}
use Rattle.tagged_list.specs.declared.tag.Tag.{Tag}
use Rattle.tagged_list.specs.declared.tag.Tag.TheVariants.{Number, Depth}
use Rattle.node_array.specs.declared.placed.Placed.{Placed}
use Rattle.node_array.specs.declared.row.Row.{Row}
use Rattle.node_array.specs.declared.row.Row.TheVariants as row
use Rattle.node_array.specs.Rows.{rows_of}
use Rattle.node_array.specs.Body.{body_of}

-- the tag of a row before which so many sections and notes are open: that of a paragraph has its number, and that of a row which
-- opens one has how many are open
abbrev pub tag_of : ℕ → Row → Option Tag
tag_of depth (row.Start head) = Some (Depth depth)
tag_of depth row.End = None
tag_of depth (row.Par head items) = Some (Number head.id.0)
tag_of depth row.NoteText = Some (Depth depth)

-- how many are open behind the row
abbrev pub next_depth : ℕ → Row → ℕ
next_depth depth (row.Start head) = depth + 1
next_depth depth row.End = depth - 1
next_depth depth (row.Par head items) = depth
next_depth depth row.NoteText = depth + 1

-- how many are round a row: an End row stands where its Start or NoteText row does
abbrev pub around_of : ℕ → Row → ℕ
around_of depth (row.Start head) = depth
around_of depth row.End = depth - 1
around_of depth (row.Par head items) = depth
around_of depth row.NoteText = depth

-- rows with their tags and with how many are open before each
abbrev pub placed_rows : ℕ → List Row → List (Option Tag × Placed)
placed_rows depth [] = []
placed_rows depth (r ∷ rows) = (tag_of depth r, record { depth = depth; row = r }) ∷ placed_rows (next_depth depth r) rows

-- how many are open behind the rows
abbrev pub depth_behind : ℕ → List Row → ℕ
depth_behind depth [] = depth
depth_behind depth (r ∷ rows) = depth_behind (next_depth depth r) rows

-- the rows alone
abbrev pub plain_rows : List (Option Tag × Placed) → List Row
plain_rows held = map (λ one. one.1.row) held

-- each row has its tag and depth, and the rows are those of a body
pub record Holds (held : List (Option Tag × Placed)) : Type 0 where
  pub placed : held ≡ placed_rows 0 (plain_rows held)
  pub body : rows_of (body_of (plain_rows held)) ≡ plain_rows held
