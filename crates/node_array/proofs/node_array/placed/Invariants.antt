use Rattle.std.proofs.Common.{◌≡◌, take}
use Rattle.node_array.specs.Held.{placed_rows, depth_behind}
use Rattle.node_array.proofs.node_array.placed.Given as goal

abbrev pub invariant-loop-row : goal.invariant-loop-row
invariant-loop-row l = record {
  placed : l.placed.items ≡ placed_rows l.fn.depth (take l.row-index l.rows);
  depth : l.depth ≡ depth_behind l.fn.depth (take l.row-index l.rows);
}
