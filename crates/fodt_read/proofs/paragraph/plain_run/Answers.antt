use Rattle.fodt_read.specs.PlainText.{IsUnmarked}
use Rattle.fodt_read.proofs.Runs.{Each-take_more}
use Rattle.fodt_read.proofs.paragraph.plain_run.Goals as goal

pub loop-place-preserved : goal.loop-place-preserved
loop-place-preserved c =
    Each-take_more IsUnmarked _ _ c.loop-place-test.true c.loop-place.invariant (c.is_unmarked.ensures.0 c.if-not-is_unmarked.false)
