use Rattle.std.proofs.Common.{◌∙◌, sym}
use Rattle.paragraph_faults.proofs.LimitLemmas.{next_here, found_here}
use Rattle.paragraph_faults.proofs.limits.first_too_many.Goals as goal

pub counted-preserved : goal.counted-preserved
counted-preserved c =
    let next = next_here c.args.counted.now c.counted.before c.counted.par-index _ _ c.counted-test.true c.counted.invariant.rest (sym c.passes.ensures ∙ c.if-passes.false) in
    record { few = next.0; rest = next.1 }

pub returns-then-passes : goal.returns-then-passes
returns-then-passes c = found_here c.args.counted.now c.counted.before c.counted.par-index _ _ c.counted-test.true c.counted.invariant.rest (sym c.passes.ensures ∙ c.if-passes.true)
