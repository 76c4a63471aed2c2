use Rattle.std.proofs.Common.{rules}
use Rattle.turn_lock.proofs.Parting.{splits}
use Rattle.turn_lock.proofs.steps.split_pass.Goals as goal

pub split_seat-requires : goal.split_seat-requires
split_seat-requires g c = let q = c.requires.seat in (q.0, search rules, splits g.M.Machine c.args.top.now.key _ _ q.3 c.requires.rests c.requires.more)
