use Rattle.edit_checks.proofs.Rows.{place_within}
use Rattle.node_array.specs.Rows.{rows_of}
use Rattle.level_walks.proofs.Ordered.{two_are}
use Rattle.level_walks.proofs.Rows.{is_found}
use Rattle.level_walks.proofs.order.is_followed.Goals as goal

pub returns-in-Some : goal.returns-in-Some
returns-in-Some c = λ doc same apart live. two_are doc c.args.rows.now c.args.par c.in-Some.at c.begins_with_one.result same apart c.requires.apart c.in-Some.ensures c.begins_with_one.ensures

pub returns-in-None : goal.returns-in-None
returns-in-None c = λ doc same apart live. is_found doc c.args.rows.now c.args.par same c.requires.flat c.in-None.ensures live

pub begins_with_one-requires : goal.begins_with_one-requires
begins_with_one-requires c = record { in_range = place_within c.args.par (rows_of c.args.rows.now) c.in-Some.at c.in-Some.ensures }
