use Rattle.std.proofs.Common.{rules}
use Rattle.turn_lock.proofs.Parting.{joins}
use Rattle.turn_lock.proofs.steps.join_pass.Goals as goal

pub join_seat-requires : goal.join_seat-requires
join_seat-requires g c = let q = c.requires.seat in let o = c.requires.other in
    (q.0.0, o.0.0, o.2, search rules, joins g.M.Machine c.args.top.now.key _ _ _ _ q.0.3 o.0.3 q.1 o.1)
