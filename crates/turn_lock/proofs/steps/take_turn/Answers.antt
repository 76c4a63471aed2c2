use Rattle.std.proofs.Common.{rules}
use Rattle.turn_lock.proofs.Turning.{takes_turn}
use Rattle.turn_lock.proofs.steps.take_turn.Goals as goal

pub compare_exchange-requires : goal.compare_exchange-requires
compare_exchange-requires g c = let q = c.requires.seat in (q.0, search rules, takes_turn g.M.Machine c.args.top.now.key _ _ _ q.3 _ c.requires.rests.0 (search rules))
