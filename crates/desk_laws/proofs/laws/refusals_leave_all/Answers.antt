use Rattle.std.proofs.Common.{◌≡◌, true, false, ap, sym, ◌∙◌}
use Rattle.desk_model.specs.declared.reply.Reply.{Reply}
use Rattle.desk_model.specs.Desk.{State}
use Rattle.desk_laws.specs.Changes.{leaves_all}
use Rattle.desk_laws.proofs.StepCases.{StepCase, step_case}
use Rattle.desk_laws.proofs.laws.refusals_leave_all.Goals as goal

pub returns : goal.returns
returns c = λ state command told. elim (step_case state command) [
  | StepCase.Stays other kept same turn ↦ same told
  | StepCase.Changes past next more e ↦ let clash : false ≡ true = sym (ap (λ (t : Reply × State). leaves_all t.0) e) ∙ told in absurd (cc)
]
