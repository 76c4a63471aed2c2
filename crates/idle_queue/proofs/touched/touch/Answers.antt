use Rattle.std.proofs.Common.{arith, sym, length}
use Rattle.idle_queue.proofs.Marks.{marked-below, marked-above, marked-at}
use Rattle.idle_queue.proofs.touched.touch.Goals as goal

pub returns-then-number-eq0 : goal.returns-then-number-eq0
returns-then-number-eq0 c = sym (marked-below c.args.version c.args.number 1 (length c.args.live.now.items) c.args.live.now.items c.requires (omega arith))

pub returns-then-place-len : goal.returns-then-place-len
returns-then-place-len c =
    marked-at c.args.version c.args.number (length c.args.live.now.items) c.args.live.now.items c.index_mut.result.now c.touch.new.self c.requires (omega arith) (omega (arith, c.len.ensures))
    c.index_mut.ensures.value c.touch.ensures

pub returns-else-place-len : goal.returns-else-place-len
returns-else-place-len c = sym (marked-above c.args.version c.args.number 1 (length c.args.live.now.items) c.args.live.now.items c.requires (omega (arith, c.len.ensures)))
