use Rattle.edit_checks.proofs.Rows.{place_within}
use Rattle.node_array.specs.Rows.{rows_of}
use Rattle.level_walks.proofs.Ordered.{last_is}
use Rattle.level_walks.proofs.Rows.{is_found}
use Rattle.level_walks.proofs.order.is_last_held.Goals as goal

pub returns-in-Some : goal.returns-in-Some
returns-in-Some c = λ doc same apart live. last_is doc c.args.rows.now c.args.par c.in-Some.at c.is_nothing.result same apart c.requires.apart c.in-Some.ensures c.is_nothing.ensures

pub returns-in-None : goal.returns-in-None
returns-in-None c = λ doc same apart live. is_found doc c.args.rows.now c.args.par same c.requires.flat c.in-None.ensures live

pub is_nothing-requires : goal.is_nothing-requires
is_nothing-requires c = record { in_range = place_within c.args.par (rows_of c.args.rows.now) c.in-Some.at c.in-Some.ensures }
