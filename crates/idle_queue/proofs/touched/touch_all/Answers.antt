use Rattle.std.proofs.Common.{take}
use Rattle.idle_queue.proofs.Marks.{marked_none, marked_more, marked_numbers}
use Rattle.idle_queue.proofs.touched.touch_all.Goals as goal

pub touched-init : goal.touched-init
touched-init c = marked_none c.args.version c.args.live.now.items

pub touch-requires : goal.touch-requires
touch-requires c = marked_numbers c.args.version (take c.touched.number-index c.args.touched.now) c.args.live.now.items c.touched.live.items c.touched.invariant c.requires

pub touched-preserved : goal.touched-preserved
touched-preserved c =
    marked_more c.args.version c.touched.number-index 0 c.args.touched.now c.args.live.now.items c.touched.live.items c.touch.new.live.items c.touched-test.true c.touched.invariant c.touch.ensures
