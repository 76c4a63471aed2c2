use Rattle.std.proofs.Common.{subst, sym}
use Rattle.page_model.specs.declared.frame.Frames.{Frames}
use Rattle.paginate.specs.Roomy.{IsRoomy}
use Rattle.paginate.proofs.FinishLemmas.{is_roomy}
use Rattle.paginate.proofs.plan.Plan.new.Goals as goal

pub invariant_of-result-clause-roomy : goal.invariant_of-result-clause-roomy
invariant_of-result-clause-roomy c = subst (λ (frames : Frames). IsRoomy frames) (sym c.in_ok-frames.ensures) (is_roomy c.args.masters.now c.args.layouts.now)
