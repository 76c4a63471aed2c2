use Rattle.std.proofs.Common.{◌≡◌, map, take}
use Rattle.sheet_values.specs.LevelKinds.{level_numbers, levels_among}
use Rattle.sheet_values.proofs.levels.levels_of.Given as goal

abbrev pub invariant-numbers : goal.invariant-numbers
invariant-numbers l = l.levels ≡ levels_among (take l.number-index level_numbers) (map (λ element. element.now) l.kept)
