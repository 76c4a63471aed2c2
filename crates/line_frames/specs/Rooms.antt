-- What is left of the width of a line.
use Rattle.std.specs.Prelude.{◌≡◌, ℕ, ◌+◌, ◌<◌, List, Option, MatchOption}
use Rattle.line_model.specs.declared.unit.TextUnit.{TextUnit}
use Rattle.line_model.specs.Lines.{columns_of}

-- so much is left of a width behind units, and nothing where they take more than it
abbrev pub IsLeft : ℕ → List TextUnit → Option ℕ → Type 0
IsLeft width units room = MatchOption room (width < columns_of units) (λ left. left + columns_of units ≡ width)
