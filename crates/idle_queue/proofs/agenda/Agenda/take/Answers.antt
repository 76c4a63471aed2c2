use Rattle.std.proofs.Common.{◌∙◌, sym, subst, ap, ℕ}
use Rattle.round_model.specs.Idle.{Idle}
use Rattle.round_model.specs.Reached.{IsReached}
use Rattle.round_model.specs.Stops.{stop_at, paragraph_count}
use Rattle.idle_queue.proofs.Turns.{take-passes, take-other, reached_other}
use Rattle.idle_queue.proofs.agenda.Agenda.take.Goals as goal

pub returns-in_default : goal.returns-in_default
returns-in_default c =
    let at = c.stop_at.ensures ∙ ap (λ (n : ℕ). stop_at n c.debt.result) c.paragraph_count.ensures.count ∙ ap (λ (n : ℕ). stop_at (paragraph_count c.args.doc.now) n) c.debt.ensures in
    record {
      ok = take-passes c.args.doc.now c.args.self.now c.pass.new.self c.pass.result c.pass.ensures.taken c.pass.ensures.passed
          ∙ take-other c.args.doc.now c.args.self.now c.stop_at.result at c.in_default.not-Settled c.in_default.not-Form;
      err = tt;
      reached = subst (λ (idle : Idle). IsReached c.args.doc.now idle) (sym c.pass.ensures.passed)
          (reached_other c.args.doc.now c.args.self.now c.requires.plain c.requires.reached c.stop_at.result at c.in_default.not-Form);
    }
