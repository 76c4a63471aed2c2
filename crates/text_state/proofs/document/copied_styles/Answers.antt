use Rattle.text_state.proofs.Copied.{copied_more}
use Rattle.text_state.proofs.document.copied_styles.Goals as goal

pub loop-at-preserved : goal.loop-at-preserved
loop-at-preserved c =
    copied_more c.args.tree.now.styles c.loop-at.at c.get.result.now c.in_ok-copy.field-0 c.loop-at.styles.items _ c.get.ensures c.loop-at.invariant c.in_ok-copy.ensures c.in_ok-push.ensures.items
