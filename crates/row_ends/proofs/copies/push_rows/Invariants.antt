use Rattle.std.proofs.Common.{◌≡◌, ◌++◌}
use Rattle.std.specs.List.{between}
use Rattle.node_array.specs.Rows.{rows_of}
use Rattle.row_ends.proofs.copies.push_rows.Given as goal

abbrev pub invariant-loop-at : goal.invariant-loop-at
invariant-loop-at l = l.copies.items ≡ l.fn.copies.items ++ between l.from l.at (rows_of l.rows)
