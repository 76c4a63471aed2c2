use Rattle.std.proofs.Common.{◌≡◌, take}
use Rattle.paginate.proofs.heads.copy_heads.Given as goal

abbrev pub invariant-loop-head : goal.invariant-loop-head
invariant-loop-head l = l.behind ≡ take l.head-index l.heads
