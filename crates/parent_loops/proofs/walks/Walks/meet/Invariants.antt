use Rattle.std.proofs.Common.{length, ◌-◌, ◌≡◌}
use Rattle.parent_loops.specs.Walked.{IsWalked}
use Rattle.parent_loops.proofs.walks.Walks.meet.Given as goal

abbrev pub invariant-steps : goal.invariant-steps
invariant-steps l = record {
  walked : IsWalked l.parents l.from l.fn.self.count l.fn.self.order.items l.self.order.items l.self.count l.at;
  kept : l.self.loops ≡ l.fn.self.loops;
}

abbrev pub decreases-steps : goal.decreases-steps
decreases-steps l = length l.parents - l.self.count
