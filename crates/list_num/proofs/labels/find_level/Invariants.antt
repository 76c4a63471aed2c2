use Rattle.std.proofs.Common.{◌≡◌, ◌==◌, take, None}
use Rattle.std.specs.List.{find}
use Rattle.list_num.proofs.labels.find_level.Given as goal

abbrev pub invariant-levels : goal.invariant-levels
invariant-levels l = find (λ level. level.level == l.own) (take l.level-index l.levels) ≡ None
