use Rattle.std.proofs.Common.{◌≡◌, map, take}
use Rattle.load_model.specs.Left.{all_of}
use Rattle.element_parts.specs.Shown.{shown}
use Rattle.sheet_values.specs.LevelKinds.{level_left}
use Rattle.sheet_values.proofs.levels.own_lefts.Given as goal

abbrev pub invariant-kept : goal.invariant-kept
invariant-kept l = l.total ≡ shown (all_of (map level_left (map (λ element. element.now) (take l.element-index l.kept))))
