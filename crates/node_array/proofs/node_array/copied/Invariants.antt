use Rattle.std.proofs.Common.{◌≡◌}
use Rattle.std.specs.List.{between}
use Rattle.node_array.specs.Held.{plain_rows}
use Rattle.node_array.proofs.node_array.copied.Given as goal

abbrev pub invariant-loop-at : goal.invariant-loop-at
invariant-loop-at l = l.copies.items ≡ between l.from l.at (plain_rows l.rows)
