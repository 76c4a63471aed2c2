use Rattle.std.proofs.Common.{◌≡◌, drop}
use Rattle.std.specs.List.{list_any}
use Rattle.sheet_values.specs.LevelKinds.{has_level}
use Rattle.sheet_values.proofs.levels.is_kept.Given as goal

abbrev pub invariant-kept : goal.invariant-kept
invariant-kept l = list_any (λ element. has_level l.level element.now) (drop l.element-index l.kept) ≡ list_any (λ element. has_level l.level element.now) l.kept
