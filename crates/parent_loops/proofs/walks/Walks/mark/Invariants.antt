use Rattle.std.proofs.Common.{◌≡◌}
use Rattle.parent_loops.specs.Ancestors.{ancestor}
use Rattle.parent_loops.specs.Walked.{AreMarked}
use Rattle.parent_loops.proofs.walks.Walks.mark.Given as goal

abbrev pub invariant-loop : goal.invariant-loop
invariant-loop l = record {
  here : ancestor l.parents l.counter l.from ≡ l.at;
  marked : AreMarked l.parents l.from l.counter l.fn.self.loops.items l.self.loops.items;
  order : l.self.order ≡ l.fn.self.order;
  count : l.self.count ≡ l.fn.self.count;
}
