use Rattle.std.proofs.Common.{◌≡◌, ◌++◌, map, take}
use Rattle.sheet_values.specs.LevelKinds.{levels_at}
use Rattle.sheet_values.proofs.levels.add_level.Given as goal

abbrev pub invariant-kept : goal.invariant-kept
invariant-kept l = l.levels ≡ l.initial.levels ++ levels_at l.level (map (λ element. element.now) (take l.element-index l.kept))
