use Rattle.std.proofs.Common.{◌≡◌, replicate, None}
use Rattle.paginate.proofs.heads.no_heads.Given as goal

abbrev pub invariant-loop : goal.invariant-loop
invariant-loop l = l.heads ≡ replicate l.counter None
