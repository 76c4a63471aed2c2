-- Units of a part of a text, by their places in the whole text.
use Rattle.std.specs.Prelude.{ℕ, ◌+◌, ◌<◌, ◌^◌, List, map}
use Rattle.std.specs.List.{AllByRecursion}
use Rattle.line_model.specs.declared.unit.TextUnit.{TextUnit}

-- a unit so many bytes further on
abbrev pub unit_further : ℕ → TextUnit → TextUnit
unit_further by unit = record unit { from = by + unit.from; to = by + unit.to }

-- units so many bytes further on
abbrev pub further : ℕ → List TextUnit → List TextUnit
further by units = map (unit_further by) units

-- units so many bytes further on end before the place 2^32
abbrev pub EndShort : ℕ → List TextUnit → Type 0
EndShort by units = AllByRecursion (λ (unit : TextUnit). by + unit.to < 2 ^ 32) units
