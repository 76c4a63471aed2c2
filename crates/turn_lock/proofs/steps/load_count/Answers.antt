use Rattle.std.proofs.Common.{rules}
use Rattle.turn_lock.proofs.Turning.{loads}
use Rattle.turn_lock.proofs.steps.load_count.Goals as goal

pub load-requires : goal.load-requires
load-requires g c = let q = c.requires.seat in (q.0, search rules, loads g.M.Machine c.args.top.now.key _ _ _ q.3 c.requires.rests)
