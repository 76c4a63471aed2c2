-- The live paragraphs that a change touches.
use Rattle.std.specs.Prelude.{ℕ, ◌==◌, if◌then◌else◌, List}
use Rattle.std.specs.List.{list_any}
use Rattle.round_model.specs.Idle.{Live}

-- a live paragraph after a change that touches the paragraphs of these numbers and makes this version
abbrev pub marked : ℕ → List ℕ → Live → Live
marked version touched live = record live { revision = if list_any (λ other. other == live.par) touched then version else live.revision }
