use Rattle.std.proofs.Common.{◌∙◌, ap}
use Rattle.node_array.specs.Rows.{rows_of}
use Rattle.row_counts.proofs.Replaced.{both, one_more}
use Rattle.row_counts.proofs.counts.Counts.of_array.Goals as goal

pub loop-at-preserved : goal.loop-at-preserved
loop-at-preserved c =
    one_more (rows_of c.args.rows.now) c.loop-at.at c.row.result.now c.loop-at.counts _ c.row.ensures c.loop-at.invariant (c.in_ok-counts.ensures ∙ ap (both c.loop-at.counts) c.of_row.ensures)
