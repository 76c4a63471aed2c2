use Rattle.std.proofs.Common.{◌≡◌, take}
use Rattle.row_counts.specs.Counts.{counts_of}
use Rattle.row_counts.proofs.counts.Counts.of_rows.Given as goal

abbrev pub invariant-loop-row : goal.invariant-loop-row
invariant-loop-row l = l.counts ≡ counts_of (take l.row-index l.rows)
