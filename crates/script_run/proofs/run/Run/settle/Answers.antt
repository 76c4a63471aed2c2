-- Each turn lowers the debt, and is one of the turns that settle.
use Rattle.std.proofs.Common.{◌≡◌, ◌≢◌, ℕ, zero, suc, ◌<◌, ◌^◌, refl, ap, sym, ◌∙◌, subst, arith}
use Rattle.desk_model.specs.declared.reply.Reply.{Reply}
use Rattle.desk_model.specs.Desk.{State}
use Rattle.desk_model.specs.Runs.{Run, turn, settle}
use Rattle.desk_laws.proofs.Settles.{turn_lowers}
use Rattle.script_run.proofs.Turns.{settles_more, settles_none}
use Rattle.script_run.proofs.run.Run.settle.Goals as goal

-- the first debt is that of the desk before the first turn, or was found to fit at an earlier one
fits : (count debt first : ℕ) → (count ≡ 0 → debt ≡ first) → (0 < count → first < 2 ^ 32) → debt < 2 ^ 32 → first < 2 ^ 32
fits zero debt first none_made some_made here = subst (λ (n : ℕ). n < 2 ^ 32) (none_made refl) here
fits (suc count) debt first none_made some_made here = some_made (omega arith)

pub turns-smaller : goal.turns-smaller
turns-smaller c =
    let debt : c.debt.result ≡ c.turns.self.state.idle.debt = c.debt.ensures ∙ ap (λ (run : Run). run.state.idle.debt) c.self.view_is in
    let owed : c.turns.self.state.idle.debt ≢ 0 = λ none. c.turns-test.true (debt ∙ none) in
    let next : c.turn.new.self.state ≡ (turn c.turns.self.state).1 = ap (λ (answer : Reply × State). answer.1) c.in_ok-turn.ensures.ok in
    subst (λ (after : State). after.idle.debt < c.turns.self.state.idle.debt) (sym next) (turn_lowers c.turns.self.state owed)

pub turns-preserved : goal.turns-preserved
turns-preserved c =
    let first : ℕ = c.args.self.now.state.idle.debt in
    let debt : c.debt.result ≡ c.turns.self.state.idle.debt = c.debt.ensures ∙ ap (λ (run : Run). run.state.idle.debt) c.self.view_is in
    let owed : c.turns.self.state.idle.debt ≢ 0 = λ none. c.turns-test.true (debt ∙ none) in
    let next : c.turn.new.self.state ≡ (turn c.turns.self.state).1 = ap (λ (answer : Reply × State). answer.1) c.in_ok-turn.ensures.ok in
    let lower : c.turn.new.self.state.idle.debt < c.turns.self.state.idle.debt =
    subst (λ (after : State). after.idle.debt < c.turns.self.state.idle.debt) (sym next) (turn_lowers c.turns.self.state owed) in
    record {
      owed = omega (arith, lower, c.turns.invariant.owed);
      none_made = λ none. absurd (omega (arith, none));
      fits = λ some. fits c.turns.count c.turns.self.state.idle.debt first c.turns.invariant.none_made c.turns.invariant.fits (subst (λ (n : ℕ). n < 2 ^ 32) debt c.debt.type_inv);
      settles = settles_more first c.turns.count c.turns.self.state c.turn.new.self.state (settle c.args.self.now.state) c.turns.invariant.owed owed next c.turns.invariant.settles;
      jobs = c.in_ok-turn.ensures.jobs ∙ c.turns.invariant.jobs;
    }

pub returns-clause-ok : goal.returns-clause-ok
returns-clause-ok c =
    let none : c.turns.self.state.idle.debt ≡ 0 = sym (c.debt.ensures ∙ ap (λ (run : Run). run.state.idle.debt) c.self.view_is) ∙ c.turns-test.false in
    settles_none c.args.self.now.state.idle.debt c.turns.count c.turns.self.state (settle c.args.self.now.state) none c.turns.invariant.settles
