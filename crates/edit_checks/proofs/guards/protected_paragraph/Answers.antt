use Rattle.node_array.specs.Rows.{rows_of}
use Rattle.edit_checks.proofs.Refused.{absent_guards, own_no_end, row_guards}
use Rattle.edit_checks.proofs.Rows.{place_within}
use Rattle.edit_checks.proofs.guards.protected_paragraph.Goals as goal

pub protected_at-requires : goal.protected_at-requires
protected_at-requires c = record {
  in_range = place_within c.args.par (rows_of c.args.rows.now) c.in-Some.at c.in-Some.ensures;
  no_end = λ one there. own_no_end c.args.par (rows_of c.args.rows.now) c.in-Some.at one c.in-Some.ensures there;
}

pub returns-in-None : goal.returns-in-None
returns-in-None c = absent_guards c.args.rows.now c.args.par c.requires.flat c.in-None.ensures

pub returns-in-Some : goal.returns-in-Some
returns-in-Some c = row_guards c.args.rows.now c.args.par c.in-Some.at c.protected_at.result c.requires.flat c.requires.apart c.in-Some.ensures c.protected_at.ensures
