use Rattle.std.proofs.Common.{sym}
use Rattle.level_walks.proofs.Rows.{is_found}
use Rattle.container_checks.proofs.Fronts.{begins_told}
use Rattle.container_checks.proofs.whole.is_front.Goals as goal

pub is_front_at-requires : goal.is_front_at-requires
is_front_at-requires c = record { apart = c.requires.apart; found = sym c.in-Some.ensures }

pub returns-in-Some : goal.returns-in-Some
returns-in-Some c = λ doc same apart live. begins_told doc c.args.rows.now c.args.par c.is_front_at.result same apart c.requires.flat c.is_front_at.ensures

pub returns-in-None : goal.returns-in-None
returns-in-None c = λ doc same apart live. is_found doc c.args.rows.now c.args.par same c.requires.flat c.in-None.ensures live
