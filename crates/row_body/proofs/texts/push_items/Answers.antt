use Rattle.std.proofs.Common.{arith}
use Rattle.row_body.proofs.Pieces.{copied_none, copied_more}
use Rattle.row_body.proofs.texts.push_items.Goals as goal

pub loop-item-init : goal.loop-item-init
loop-item-init c = copied_none c.args.copies.now.items c.args.items.now c.args.texts.now

pub loop-item-preserved : goal.loop-item-preserved
loop-item-preserved c = copied_more _ _ _ _ _ _ _ _ _ _ c.loop-item.invariant (omega arith) c.item-item.is c.in_ok-copy.ensures.copied c.in_ok-copy.ensures.left c.in_ok-push.ensures.items
