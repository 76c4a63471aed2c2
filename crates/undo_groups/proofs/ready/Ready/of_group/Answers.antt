use Rattle.std.proofs.Common.{arith}
use Rattle.undo_groups.proofs.Expansions.{RunSoFar-more}
use Rattle.undo_groups.proofs.ready.Ready.of_group.Goals as goal

pub loop-index-preserved : goal.loop-index-preserved
loop-index-preserved g c =
    let t = g.T.Invertible in
    RunSoFar-more t.expansion t.after t.value t.meaning g.met.T.Invertible.value_after c.args.target.now c.args.ops.now c.loop-index.index c.loop-index.changed
    c.loop-index.prims.items c.loop-index.answered.items c.loop-index.invariant
    c.index-ops-index.result c.in-Ok.expansion.items c.as_slice.result.now c.apply_all.new.target c.append.new.self.items c.apply_all.new.answered.items
    (omega arith) c.index-ops-index.is c.in-Ok.ensures.answer c.in-Ok.ensures.fits c.as_slice.ensures.value
    c.in_ok-apply_all.ensures.target c.in_ok-apply_all.ensures.answered c.in_ok-append.ensures.items
