use Rattle.std.proofs.Common.{Some, ◌∙◌}
use Rattle.std.specs.Prelude.{option_copied}
use Rattle.round_columns.proofs.Last.{brought_is, columns_are, none_stated, some_stated}
use Rattle.round_columns.proofs.in_force.InForce.behind.Goals as goal

pub returns-in-Some : goal.returns-in-Some
returns-in-Some c = λ doc before one masters layouts is hidden stated. record {
  master = some_stated doc before one c.in-Some.place (c.in-Some.ensures ∙ brought_is doc one c.args.masters.now c.args.hidden (option_copied c.args.stated) masters hidden stated);
  columns = c.columns_at.ensures ∙ columns_are doc c.args.masters.now c.args.layouts.now (Some c.in-Some.place) masters layouts;
}

pub returns-in-None : goal.returns-in-None
returns-in-None c = λ doc before one masters layouts is hidden stated. record {
  master = none_stated doc before one c.args.self.master (c.in-None.ensures ∙ brought_is doc one c.args.masters.now c.args.hidden (option_copied c.args.stated) masters hidden stated) is.master;
  columns = is.columns;
}
