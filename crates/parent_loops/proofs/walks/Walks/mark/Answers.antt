use Rattle.std.proofs.Common.{◌≡◌, ◌<◌, ◌+◌, ℕ, suc, length, ◌∙◌, ap, sym, arith}
use Rattle.parent_loops.specs.Ancestors.{parent_of, ancestor}
use Rattle.parent_loops.proofs.WalkLemmas.{above_more, marked_more}
use Rattle.parent_loops.proofs.walks.Walks.mark.Goals as goal

pub loop-preserved : goal.loop-preserved
loop-preserved c =
    let parents = c.args.parents.now in
    let known = c.loop.invariant in
    let next : c.loop.counter + 1 ≡ suc c.loop.counter = omega arith in
    let there = c.requires.within c.loop.counter c.loop-test.true in
    let here = known.here in
    let flags = known.marked.flags in
    let all = c.requires.all in
    let inside : c.loop.at < length c.loop.self.loops.items = omega (arith, there, here, flags, all) in
    record {
      here = ap (λ (steps : ℕ). ancestor parents steps c.args.from) next ∙ above_more parents c.loop.counter c.args.from ∙ ap (parent_of parents) known.here ∙ sym c.parent_of-at.ensures;
      marked = marked_more parents c.args.from c.loop.counter c.loop.at c.args.self.now.loops.items c.loop.self.loops.items known.marked known.here inside;
      order = known.order;
      count = known.count;
    }
