use Rattle.std.proofs.Common.{rules}
use Rattle.turn_lock.proofs.Turning.{counts}
use Rattle.turn_lock.proofs.steps.count_entry.Goals as goal

pub fetch_add-requires : goal.fetch_add-requires
fetch_add-requires g c = let q = c.requires.seat in let e = c.requires.entry in (q.0, search rules, counts g.M.Machine c.args.top.now.key _ _ _ q.3 e.0 e.1 c.requires.turn c.requires.room e.2 e.3)
