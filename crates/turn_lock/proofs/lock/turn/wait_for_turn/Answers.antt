use Rattle.std.proofs.Common.{arith, ◌+◌, ◌<◌, ℕ, refl, ◌∙◌, subst}
use Rattle.turn_lock.specs.Plays.{Turns}
use Rattle.turn_lock.proofs.lock.turn.wait_for_turn.Goals as goal

pub loop-init : goal.loop-init
loop-init g c = let v = c.args.pass.now.me.0 in (tt, tt, (refl, refl), (v.tries, v.read, omega arith, refl))

pub returns-then-take_turn-eq0 : goal.returns-then-take_turn-eq0
returns-then-take_turn-eq0 g c = let kept = c.loop.invariant.2 in let so_far = c.loop.invariant.3 in let n : ℕ = so_far.0 in let low = so_far.2 in let did = c.take_turn.ensures in
    let more : c.args.pass.now.me.0.tries < n + 1 = omega arith in (
      (did.0.0 ∙ kept.0, did.0.1 ∙ kept.1),
      (n + 1, more, subst (λ m. Turns m (m.0.tries + 1) c.take_turn.new.pass.me) so_far.3 (did.1.0 c.if-take_turn-eq0.true)),
    )
