-- The turns that settle, one after another.
use Rattle.std.proofs.Common.{◌≡◌, ◌≢◌, ℕ, ◌+◌, ◌-◌, ◌<◌, ◌≤◌, zero, suc, refl, sym, ap, ◌∙◌, arith}
use Rattle.std.specs.Prelude.{◌==◌}
use Rattle.std.proofs.lemmas.Bool.{cond-true, cond-false, eq-eqb, ne_eqb}
use Rattle.desk_model.specs.Desk.{State}
use Rattle.desk_model.specs.Runs.{turn, turns}

-- turns that are as many and one more than before
abbrev one_more : ℕ × State → ℕ × State
one_more ended = (ended.0 + 1, ended.1)

turns_owed : (most : ℕ) (state : State) → 0 < most → state.idle.debt ≢ 0 → turns most state ≡ one_more (turns (most - 1) (turn state).1)
turns_owed zero state some owed = absurd (omega arith)
turns_owed (suc most) state some owed =
    let less : most ≡ suc most - 1 = omega arith in
    cond-false (state.idle.debt == 0) (0, state) (one_more (turns most (turn state).1)) (ne_eqb state.idle.debt 0 owed)
    ∙ ap (λ (fuel : ℕ). one_more (turns fuel (turn state).1)) less

turns_none : (most : ℕ) (state : State) → state.idle.debt ≡ 0 → turns most state ≡ (0, state)
turns_none zero state none = refl
turns_none (suc most) state none = cond-true (state.idle.debt == 0) (0, state) (one_more (turns most (turn state).1)) (eq-eqb state.idle.debt 0 none)

-- turns that are so many more than before
abbrev further : ℕ → ℕ × State → ℕ × State
further count ended = (ended.0 + count, ended.1)

further-one_more : (count : ℕ) (ended : ℕ × State) → further (count + 1) ended ≡ further count (one_more ended)
further-one_more count ended =
    let sum : ended.0 + (count + 1) ≡ ended.0 + 1 + count = omega arith in
    ap (λ (n : ℕ). (n, ended.1)) sum

further-none : (count : ℕ) (state : State) → (count, state) ≡ further count (0, state)
further-none count state =
    let sum : count ≡ 0 + count = omega arith in
    ap (λ (n : ℕ). (n, state)) sum

-- with one turn more made, one less is left
pub settles_more : (first count : ℕ) (state next : State) (whole : ℕ × State) → count + state.idle.debt ≤ first → state.idle.debt ≢ 0 → next ≡ (turn state).1
    → ((turns (first - count) state).0 + count, (turns (first - count) state).1) ≡ whole
    → ((turns (first - (count + 1)) next).0 + (count + 1), (turns (first - (count + 1)) next).1) ≡ whole
settles_more first count state next whole owed some is before =
    let fewer : first - (count + 1) ≡ first - count - 1 = omega arith in
    let left : 0 < first - count = omega arith in
    let made : one_more (turns (first - (count + 1)) next) ≡ turns (first - count) state = rw (is, fewer) (sym (turns_owed (first - count) state left some)) in
    let same : further count (one_more (turns (first - (count + 1)) next)) ≡ further count (turns (first - count) state) = ap (further count) made in
    let grown : further (count + 1) (turns (first - (count + 1)) next) ≡ further count (one_more (turns (first - (count + 1)) next)) = further-one_more count (turns (first - (count + 1)) next) in
    cc

-- once there is no debt, all turns are made
pub settles_none : (first count : ℕ) (state : State) (whole : ℕ × State) → state.idle.debt ≡ 0
    → ((turns (first - count) state).0 + count, (turns (first - count) state).1) ≡ whole → (count, state) ≡ whole
settles_none first count state whole none before =
    let same : further count (turns (first - count) state) ≡ further count (0, state) = ap (further count) (turns_none (first - count) state none) in
    let made : (count, state) ≡ further count (0, state) = further-none count state in
    cc
