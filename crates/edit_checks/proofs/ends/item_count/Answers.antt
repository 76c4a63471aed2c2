use Rattle.std.proofs.Common.{◌∙◌}
use Rattle.edit_checks.proofs.Rows.{none_counted, counted}
use Rattle.edit_checks.proofs.ends.item_count.Goals as goal

pub returns-in-None : goal.returns-in-None
returns-in-None c = λ doc same. none_counted doc c.args.rows.now c.args.par same c.requires.flat c.in-None.ensures

pub returns-in-Some : goal.returns-in-Some
returns-in-Some c = λ doc same.
    c.row_length.ensures ∙ counted doc c.args.rows.now c.args.par c.in-Some.at c.row.result.now same c.requires.flat c.in-Some.ensures c.row.ensures
