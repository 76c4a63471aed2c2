-- What holds in every state that is reached from the start.
use Rattle.std.proofs.Common.{◌≡◌, ℕ, ◌+◌, ◌⊎◌, inl, inr, List, [], ◌∷◌, ap, sym, subst}
use Rattle.doc_model.specs.declared.document.Document.{Document}
use Rattle.desk_model.specs.declared.command.Command.{Command}
use Rattle.desk_model.specs.declared.command.Command.TheVariants as command
use Rattle.desk_model.specs.declared.reply.Reply.{Reply}
use Rattle.round_model.specs.Reached.{IsReached}
use Rattle.desk_model.specs.Desk.{State, present, start_at}
use Rattle.round_model.proofs.ReachedLemmas.{AreFirst, AreFirst-start, AreFirst-live_after, AreFirst-take, AreFirst-publish, IsReached-start, IsReached-restarted, IsReached-take, IsReached-publish}
use Rattle.desk_laws.specs.Steps.{after, after_all}
use Rattle.desk_laws.specs.Changes.{touched_at, is_restyling_at}
use Rattle.desk_laws.proofs.StepCases.{StepCase, step_case, IsIdleTurn}

-- a reached state
pub record IsReachedState (state : State) : Type 0 where
  pub first : AreFirst state.idle.live
  pub reached : IsReached (present state) state.idle

of_turn : (old : State) (command : Command) → IsIdleTurn command → IsReachedState old → IsReachedState (after old command)
of_turn old command.Take turn is = record { first = AreFirst-take (present old) old.idle is.first; reached = IsReached-take (present old) old.idle is.reached }
of_turn old (command.Publish job) turn is = record { first = AreFirst-publish (present old) old.idle job is.first; reached = IsReached-publish (present old) old.idle job is.first is.reached }
of_turn old (command.Edit group) turn is = absurd turn
of_turn old command.Undo turn is = absurd turn
of_turn old command.Redo turn is = absurd turn
of_turn old (command.Page index) turn is = absurd turn
of_turn old (command.Text par) turn is = absurd turn
of_turn old command.Save turn is = absurd turn
of_turn old command.Debt turn is = absurd turn
of_turn old command.Version turn is = absurd turn

of_stay : (old : State) (command : Command) → (after old command ≡ old) ⊎ IsIdleTurn command → IsReachedState old → IsReachedState (after old command)
of_stay old command (inl same) is = subst (λ (state : State). IsReachedState state) (sym same) is
of_stay old command (inr turn) is = of_turn old command turn is

IsReachedState-step : (old : State) (command : Command) → IsReachedState old → IsReachedState (after old command)
IsReachedState-step old command is = elim (step_case old command) [
  | StepCase.Stays other kept same turn ↦ of_stay old command turn is
  | StepCase.Changes past next more e ↦ subst (λ (state : State). IsReachedState state) (sym (ap (λ (t : Reply × State). t.1) e)) (record {
    first = AreFirst-live_after old.idle.live past.present (touched_at old command) (old.version + 1);
    reached = IsReached-restarted old.idle past.present (touched_at old command) (is_restyling_at old command) (old.version + 1) is.reached.few;
  })
]

IsReachedState-all : (state : State) (commands : List Command) → IsReachedState state → IsReachedState (after_all state commands)
IsReachedState-all state [] is = is
IsReachedState-all state (command ∷ more) is = IsReachedState-all (after state command) more (IsReachedState-step state command is)

pub reached_states : (doc : Document) (version : ℕ) (commands : List Command) → IsReached (present (after_all (start_at doc version) commands)) (after_all (start_at doc version) commands).idle
reached_states doc version commands =
    (IsReachedState-all (start_at doc version) commands (record { first = AreFirst-start doc version; reached = IsReached-start doc version })).reached
