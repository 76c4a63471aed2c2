use Rattle.std.proofs.Common.{ℕ, ◌<◌}
use Rattle.parent_loops.specs.Walked.{AreDecided, met_at}
use Rattle.parent_loops.proofs.walks.own_ancestors.Given as goal

abbrev pub invariant-loop-from : goal.invariant-loop-from
invariant-loop-from l = record {
  decided : AreDecided l.parents l.walks.order.items l.walks.loops.items l.walks.count;
  met : (at : ℕ) → at < l.from → 0 < met_at l.walks.order.items at;
}
