use Rattle.std.proofs.Common.{◌≡◌, ◌≤◌}
use Rattle.std.specs.List.{between}
use Rattle.level_walks.specs.Walks.{stays}
use Rattle.node_array.specs.Rows.{rows_of}
use Rattle.level_walks.proofs.walks.stays.Given as goal

abbrev pub invariant-loop-at : goal.invariant-loop-at
invariant-loop-at l = (stays l.sections l.depth (between l.at l.to (rows_of l.rows)) ≡ stays l.sections 0 (between l.from l.to (rows_of l.rows))) × (l.depth ≤ l.at)
