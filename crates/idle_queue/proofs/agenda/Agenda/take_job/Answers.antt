use Rattle.std.proofs.Common.{◌∙◌, sym, subst, Some, None}
use Rattle.round_model.specs.Idle.{Idle}
use Rattle.round_model.specs.Reached.{IsReached}
use Rattle.idle_queue.proofs.Turns.{take-passes, take-form, reached_formed}
use Rattle.idle_queue.proofs.agenda.Agenda.take_job.Goals as goal

pub returns-in-Some-clause-ok : goal.returns-in-Some-clause-ok
returns-in-Some-clause-ok c =
    take-form c.args.doc.now c.args.self.now c.requires.form.0 c.args.place (Some c.in-Some.job) c.requires.form.1 (sym c.in-Some.is ∙ c.in_ok-job.ensures c.requires.form.0)

pub returns-in-None-clause-ok : goal.returns-in-None-clause-ok
returns-in-None-clause-ok c =
    take-passes c.args.doc.now c.args.self.now c.pass.new.self c.pass.result c.pass.ensures.taken c.pass.ensures.passed
    ∙ take-form c.args.doc.now c.args.self.now c.requires.form.0 c.args.place None c.requires.form.1 (sym c.in-None.is ∙ c.in_ok-job.ensures c.requires.form.0)

pub returns-in-None-clause-reached : goal.returns-in-None-clause-reached
returns-in-None-clause-reached c =
    subst (λ (idle : Idle). IsReached c.args.doc.now idle) (sym c.pass.ensures.passed)
    (reached_formed c.args.doc.now c.args.self.now c.requires.plain c.requires.reached c.requires.form.0 c.args.place c.requires.form.1 (sym c.in-None.is ∙ c.in_ok-job.ensures c.requires.form.0))
