use Rattle.std.proofs.Common.{rules}
use Rattle.turn_lock.proofs.Turning.{compares}
use Rattle.turn_lock.proofs.steps.compare_seen.Goals as goal

pub load-requires : goal.load-requires
load-requires g c = let q = c.requires.seat in let m = c.requires.met in (q.0, search rules, compares g.M.Machine c.args.top.now.key _ _ _ q.3 m.0 m.1 m.2)
