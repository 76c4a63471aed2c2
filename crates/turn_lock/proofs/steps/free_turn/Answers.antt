use Rattle.std.proofs.Common.{rules}
use Rattle.turn_lock.proofs.Turning.{frees}
use Rattle.turn_lock.proofs.steps.free_turn.Goals as goal

pub swap-requires : goal.swap-requires
swap-requires g c = let q = c.requires.seat in let e = c.requires.slot in (q.0, search rules, frees g.M.Machine c.args.top.now.key _ _ _ q.3 e.0 c.requires.turn e.1 e.2 e.3)
