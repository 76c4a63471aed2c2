-- Pages with room for a note row behind a separator.
use Rattle.std.specs.Prelude.{ℕ, ◌≤◌, Option}
use Rattle.page_model.specs.declared.frame.Frames.{Frames}
use Rattle.page_model.specs.Frames.{frame_at}

-- each page has room for two rows at least
abbrev pub IsRoomy : Frames → Type 0
IsRoomy frames = (master : Option ℕ) → 2 ≤ (frame_at frames master).room
