use Rattle.std.proofs.Common.{◌≡◌, drop}
use Rattle.node_array.specs.Rows.{rows_of}
use Rattle.node_array.specs.Body.{levels_of}
use Rattle.row_body.proofs.body.body_of.Given as goal

abbrev pub invariant-loop-at : goal.invariant-loop-at
invariant-loop-at l = l.levels ≡ levels_of (drop l.at (rows_of l.rows))
