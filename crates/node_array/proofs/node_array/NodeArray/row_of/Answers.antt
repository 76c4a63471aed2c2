use Rattle.std.proofs.Common.{sym, ap, ◌∙◌}
use Rattle.std.specs.Prelude.{position}
use Rattle.node_array.specs.Rows.{rows_of}
use Rattle.node_array.specs.Places.{is_par}
use Rattle.node_array.proofs.HeldRows.{position_held}
use Rattle.node_array.proofs.node_array.NodeArray.row_of.Goals as goal

pub returns : goal.returns
returns c =
    c.first.ensures
    ∙ (position_held c.args.par c.self.inside.rows c.self.invariant ∙ ap (position (is_par c.args.par)) (sym c.self.invariant.body ∙ ap rows_of c.self.view_is))
