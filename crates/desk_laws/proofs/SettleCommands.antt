-- Turns are takes and publishes.
use Rattle.std.proofs.Common.{◌≡◌, ℕ, ◌+◌, List, [], ◌∷◌, ◌++◌, refl, ap, sym, ◌∙◌, subst, zero, suc}
use Rattle.std.specs.Prelude.{◌==◌}
use Rattle.std.proofs.lemmas.Bool.{cond_both}
use Rattle.line_model.specs.declared.job.Job.{Job}
use Rattle.desk_model.specs.declared.command.Command.{Command}
use Rattle.desk_model.specs.declared.command.Command.TheVariants as command
use Rattle.desk_model.specs.declared.reply.Reply.{Reply}
use Rattle.desk_model.specs.declared.reply.Reply.TheVariants as reply
use Rattle.round_model.specs.declared.turn.Taken.{Taken}
use Rattle.round_model.specs.Stops.{debt_behind}
use Rattle.round_model.specs.Idle.{Idle, stamp_of, take, publish}
use Rattle.desk_model.specs.Desk.{State, present, taken_reply, step}
use Rattle.desk_model.specs.Runs.{turn, turns, settle}
use Rattle.round_model.proofs.TakeCases.{TakeCase, take_case}
use Rattle.desk_laws.specs.Steps.{after, after_all}
use Rattle.desk_laws.specs.Changes.{HasNoChange}
use Rattle.desk_laws.proofs.Settles.{turn_passed, turn_asked}
use Rattle.desk_laws.proofs.UndoneAll.{taken_no_change, published_no_change}

-- a state that commands without a change lead to
pub record IsLedTo (state other : State) : Type 0 where
  pub commands : List Command
  pub none : HasNoChange state commands
  pub same : other ≡ after_all state commands

after_all-append : (state : State) (commands more : List Command) → after_all state (commands ++ more) ≡ after_all (after_all state commands) more
after_all-append state [] more = refl
after_all-append state (command ∷ commands) more = after_all-append (after state command) commands more

HasNoChange-append : (state : State) (commands more : List Command) → HasNoChange state commands → HasNoChange (after_all state commands) more → HasNoChange state (commands ++ more)
HasNoChange-append state [] more none later = later
HasNoChange-append state (command ∷ commands) more none later = (none.0, HasNoChange-append (after state command) commands more none.1 later)

IsLedTo-then : (one two three : State) → IsLedTo one two → IsLedTo two three → IsLedTo one three
IsLedTo-then one two three first second = record {
  commands = first.commands ++ second.commands;
  none = HasNoChange-append one first.commands second.commands first.none (subst (λ (state : State). HasNoChange state second.commands) first.same second.none);
  same = second.same ∙ ap (λ (state : State). after_all state second.commands) first.same ∙ sym (after_all-append one first.commands second.commands);
}

-- the turn where nothing is left to do
turn_done : (state : State) (new : State) → step state command.Take ≡ (reply.Settled, new) → turn state ≡ (reply.Settled, new)
turn_done state new e = rw (e, turn)

of_take : (state new : State) → new ≡ after state command.Take → IsLedTo state new
of_take state new same = record { commands = command.Take ∷ []; none = (taken_no_change (take (present state) state.idle).0, tt); same = same }

of_publish : (state : State) (job : Job) (new : State) → new ≡ after state (command.Publish job) → IsLedTo state new
of_publish state job new same = record { commands = command.Publish job ∷ []; none = (published_no_change (publish (present state) state.idle job).0, tt); same = same }

IsLedTo-turn : (state : State) → IsLedTo state (turn state).1
IsLedTo-turn state = elim (take_case (present state) state.idle) [
  | TakeCase.Done e f ↦
      let taken : step state command.Take ≡ (reply.Settled, state) = ap (λ (t : Taken × Idle). (taken_reply t.0, record state { idle = t.1 })) f in
      of_take state (turn state).1 (ap (λ (t : Reply × State). t.1) (turn_done state state taken ∙ sym taken))
  | TakeCase.Passed e none f ↦
      let taken : step state command.Take ≡ (reply.Moved (debt_behind (present state) state.idle.debt), record state { idle = record state.idle { debt = debt_behind (present state) state.idle.debt } }) =
      ap (λ (t : Taken × Idle). (taken_reply t.0, record state { idle = t.1 })) f in
      of_take state (turn state).1 (ap (λ (t : Reply × State). t.1)
      (turn_passed state (debt_behind (present state) state.idle.debt) (record state { idle = record state.idle { debt = debt_behind (present state) state.idle.debt } }) taken ∙ sym taken))
  | TakeCase.Asked round place set live e at is lives none f ↦
      let taken : step state command.Take ≡ (reply.Job (record { par = record { 0 = set.par }; stamp = stamp_of state.idle live; key = set.key }), state) =
      ap (λ (t : Taken × Idle). (taken_reply t.0, record state { idle = t.1 })) f in
      IsLedTo-then state state (turn state).1 (of_take state state (sym (ap (λ (t : Reply × State). t.1) taken)))
      (of_publish state (record { par = record { 0 = set.par }; stamp = stamp_of state.idle live; key = set.key }) (turn state).1
      (ap (λ (t : Reply × State). t.1) (turn_asked state (record { par = record { 0 = set.par }; stamp = stamp_of state.idle live; key = set.key }) taken)))
]

IsLedTo-turns : (most : ℕ) (state : State) → IsLedTo state (turns most state).1
IsLedTo-turns zero state = record { commands = []; none = tt; same = refl }
IsLedTo-turns (suc most) state =
    cond_both (state.idle.debt == 0) (0, state) ((turns most (turn state).1).0 + 1, (turns most (turn state).1).1) (λ (ended : ℕ × State). IsLedTo state ended.1)
    (λ e. record { commands = []; none = tt; same = refl })
    (λ e. IsLedTo-then state (turn state).1 (turns most (turn state).1).1 (IsLedTo-turn state) (IsLedTo-turns most (turn state).1))

pub settle_commands : (state : State) → (commands : List Command) × HasNoChange state commands × ((settle state).1 ≡ after_all state commands)
settle_commands state = let led = IsLedTo-turns state.idle.debt state in (led.commands, led.none, led.same)
