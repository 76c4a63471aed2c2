use Rattle.std.proofs.Common.{◌≡◌, ◌+◌, drop}
use Rattle.container_rows.specs.Texts.{through_ends}
use Rattle.node_array.specs.Rows.{rows_of}
use Rattle.row_ends.proofs.ends.behind_ends.Given as goal

abbrev pub invariant-loop-at : goal.invariant-loop-at
invariant-loop-at l = l.from + through_ends l.count (drop l.from (rows_of l.rows)) ≡ l.at + through_ends l.left (drop l.at (rows_of l.rows))
