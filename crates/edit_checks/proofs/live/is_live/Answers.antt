use Rattle.edit_checks.proofs.Rows.{live_at, absent_from}
use Rattle.edit_checks.proofs.live.is_live.Goals as goal

pub returns-in-Some : goal.returns-in-Some
returns-in-Some c = λ doc same. live_at doc c.args.rows.now c.args.par c.in-Some.field-0 same c.requires.flat c.in-Some.ensures

pub returns-in-None : goal.returns-in-None
returns-in-None c = λ doc same. absent_from doc c.args.rows.now c.args.par same c.requires.flat c.in-None.ensures
