use Rattle.std.proofs.Common.{ap, ◌∙◌}
use Rattle.style_model.specs.Masters.{first_master}
use Rattle.round_columns.proofs.Last.{columns_are}
use Rattle.round_columns.proofs.in_force.InForce.first.Goals as goal

pub returns : goal.returns
returns c = λ doc masters layouts. record {
  master = c.next_master-master.ensures.next ∙ ap first_master masters;
  columns = c.columns_at.ensures ∙ columns_are doc c.args.masters.now c.args.layouts.now c.next_master-master.result masters layouts;
}
