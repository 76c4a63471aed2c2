use Rattle.std.proofs.Common.{◌≡◌, ◌++◌, drop, suc}
use Rattle.paginate.specs.Heads.{raised}
use Rattle.paginate.proofs.heads.raised.Given as goal

abbrev pub invariant-levels : goal.invariant-levels
invariant-levels l = l.behind ++ raised l.heading (suc l.index) (drop l.index l.heads) ≡ raised l.heading 1 l.heads
