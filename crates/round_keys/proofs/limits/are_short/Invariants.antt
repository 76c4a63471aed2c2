use Rattle.std.proofs.Common.{length}
use Rattle.std.specs.List.{AllByRecursion as Each}
use Rattle.key_parts.specs.Shows.{IsShort}
use Rattle.round_keys.proofs.limits.are_short.Given as goal

abbrev pub invariant-texts : goal.invariant-texts
invariant-texts l = Each IsShort l.left → Each IsShort l.shown

abbrev pub decreases-texts : goal.decreases-texts
decreases-texts l = length l.left
