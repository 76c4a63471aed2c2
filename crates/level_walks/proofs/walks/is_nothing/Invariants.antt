use Rattle.std.proofs.Common.{◌≡◌, ◌≤◌, ◌+◌, drop}
use Rattle.level_rows.specs.Level.{held_in}
use Rattle.level_walks.specs.Walks.{is_nothing}
use Rattle.node_array.specs.Rows.{rows_of}
use Rattle.level_walks.proofs.walks.is_nothing.Given as goal

abbrev pub invariant-loop-at : goal.invariant-loop-at
invariant-loop-at l = (is_nothing (held_in l.depth (drop l.at (rows_of l.rows))) ≡ is_nothing (held_in 0 (drop (l.place + 1) (rows_of l.rows)))) × (l.depth ≤ l.at)
