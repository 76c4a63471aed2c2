use Rattle.std.proofs.Common.{◌≡◌, take}
use Rattle.node_array.specs.Rows.{rows_of}
use Rattle.row_counts.specs.Counts.{counts_of}
use Rattle.row_counts.proofs.counts.Counts.of_array.Given as goal

abbrev pub invariant-loop-at : goal.invariant-loop-at
invariant-loop-at l = l.counts ≡ counts_of (take l.at (rows_of l.rows))
