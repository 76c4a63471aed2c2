-- Jobs that are asked for.
use Rattle.std.proofs.Common.{◌≡◌, false, refl, ap, sym, ◌∙◌, subst, Some}
use Rattle.line_model.specs.declared.job.Job.{Job}
use Rattle.desk_model.specs.declared.command.Command.TheVariants as command
use Rattle.desk_model.specs.declared.reply.Reply.TheVariants as reply
use Rattle.round_model.specs.declared.turn.Taken.{Taken}
use Rattle.round_model.specs.Idle.{Idle, Live, live_at, keeps, stamp_of}
use Rattle.desk_model.specs.Desk.{State, present, taken_reply}
use Rattle.desk_laws.specs.Steps.{reply_to, after}
use Rattle.round_model.proofs.TakeCases.{TakeCase, take_case}

-- a job is that of a live paragraph, with its stamp and a key that it doesn't keep, and asking for it leaves all
pub record IsAsked (state : State) (job : Job) : Type 0 where
  pub live : Live
  pub found : live_at job.par.0 state.idle.live ≡ Some live
  pub stamp : job.stamp ≡ stamp_of state.idle live
  pub fresh : keeps live job.key ≡ false
  pub same : after state command.Take ≡ state

same_job : (a b : Job) → reply.Job a ≡ reply.Job b → b ≡ a
same_job a b e = cc

pub asked : (state : State) (job : Job) → reply_to state command.Take ≡ reply.Job job → IsAsked state job
asked state job told = elim (take_case (present state) state.idle) [
  | TakeCase.Done e f ↦ let clash : reply.Job job ≡ reply.Settled = sym told ∙ ap (λ (t : Taken × Idle). taken_reply t.0) f in absurd (cc)
  | TakeCase.Passed e none f ↦ let clash = sym told ∙ ap (λ (t : Taken × Idle). taken_reply t.0) f in absurd (cc)
  | TakeCase.Asked round place set live some at is lives none f ↦
      subst (λ (job : Job). IsAsked state job) (same_job _ _ (sym told ∙ ap (λ (t : Taken × Idle). taken_reply t.0) f))
      (record { live = live; found = lives; stamp = refl; fresh = none; same = ap (λ (t : Taken × Idle). record state { idle = t.1 }) f })
]
