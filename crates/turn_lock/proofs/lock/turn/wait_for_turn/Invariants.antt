use Rattle.std.proofs.Common.{◌≡◌, ℕ, ◌≤◌}
use Rattle.turn_lock.specs.Plays.{IsSameSeat}
use Rattle.turn_lock.proofs.lock.turn.wait_for_turn.Given as goal

abbrev pub invariant-loop : goal.invariant-loop
invariant-loop g l = (goal.iterator-loop g).can_next l.iterator' × (goal.iterator-loop g).is_finite l.iterator' × IsSameSeat l.fn.pass l.pass
    × ((n m : ℕ) × (l.fn.pass.me.0.tries ≤ n) × (l.pass.me ≡ (record l.fn.pass.me.0 { tries = n; read = m }, l.fn.pass.me.1)))
