use Rattle.desk.proofs.Touched.{touched_more}
use Rattle.desk.proofs.group.touched_by.Goals as goal

pub loop-op-preserved : goal.loop-op-preserved
loop-op-preserved c =
    touched_more c.get-op-items.result.now c.loop-op.op-index c.op-item.result c.loop-op.touched c.push_touched.new.touched c.loop-op-test.true c.op-item.is c.loop-op.invariant c.in_ok-push_touched.ensures
