use Rattle.index_steps.proofs.Ranges.{one_more, take_item}
use Rattle.index_steps.proofs.redirect.redirect.Goals as goal

pub loop-item-preserved : goal.loop-item-preserved
loop-item-preserved c =
    one_more c.args.items.now c.loop-item.item-index c.item-item.result c.args.from c.args.to c.args.index.now c.loop-item.index c.redirect_item.new.index
    (take_item c.args.items.now c.loop-item.item-index c.item-item.result c.item-item.is c.loop-item-test.true) c.loop-item.invariant c.in_ok-redirect_item.ensures
