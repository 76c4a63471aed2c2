use Rattle.std.proofs.Common.{◌∙◌, ap, drop, List, refl}
use Rattle.page_model.specs.declared.row.Row.{Row}
use Rattle.paginate.proofs.EndLemmas.{from_on}
use Rattle.paginate.proofs.PlanLemmas.{closed-reaches}
use Rattle.paginate.proofs.plan.Plan.close_one.Goals as goal

pub returns-clause-stays : goal.returns-clause-stays
returns-clause-stays c = λ masters layouts pars placed. record {
  unfinished = placed.unfinished;
  has_masters = placed.has_masters;
  has_frames = placed.has_frames;
  has_set = placed.has_set;
  few = placed.few;
  reaches = closed-reaches masters layouts pars c.args.self.now c.args.self.now.frames _ c.close.new.self c.in_ok-count.count placed refl
      (from_on c.args.self.now.from c.deref.result.now ∙ ap (λ (l : List Row). drop c.args.self.now.from l) c.deref.ensures.value) (c.is_full.ensures.0 c.if-not-is_full.false) c.in_ok-count.ensures.ok;
}
