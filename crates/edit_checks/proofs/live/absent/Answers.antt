use Rattle.std.proofs.Common.{[]}
use Rattle.edit_checks.proofs.Firsts.{absent_first, live_left_out}
use Rattle.edit_checks.proofs.live.absent.Goals as goal

pub returns-then-is_live : goal.returns-then-is_live
returns-then-is_live c = λ doc same. live_left_out doc c.args.par [] c.is_live.result (c.is_live.ensures doc same) c.if-is_live.true

pub returns-else-is_live : goal.returns-else-is_live
returns-else-is_live c = λ doc same. absent_first doc c.args.par [] c.is_live.result (c.is_live.ensures doc same) c.if-is_live.false
