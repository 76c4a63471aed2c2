use Rattle.paragraph_faults.proofs.LimitLemmas.{long_step}
use Rattle.paragraph_faults.proofs.limits.too_long.Goals as goal

pub counted-preserved : goal.counted-preserved
counted-preserved c =
    long_step c.args.counted.now c.counted.par-index _ c.counted.places.items c.push_long.new.places.items c.counted-test.true c.counted.invariant c.in_ok-push_long.ensures
