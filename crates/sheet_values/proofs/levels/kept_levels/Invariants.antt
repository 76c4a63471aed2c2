use Rattle.std.proofs.Common.{◌≡◌, map, take}
use Rattle.sheet_values.specs.LevelKinds.{kept_among}
use Rattle.sheet_values.proofs.levels.kept_levels.Given as goal

abbrev pub invariant-turns : goal.invariant-turns
invariant-turns l = map (λ element. element.now) l.kept.items ≡ kept_among l.of (map (λ turn. turn.elem) (take l.turn-index l.turns))
