use Rattle.std.proofs.Common.{◌≡◌, ◌≤◌, ◌++◌, length}
use Rattle.std.specs.Prelude.{reverse}
use Rattle.edit_ops.proofs.items.split_off.Given as goal

-- the items that are left, and then those that were taken, from the last one taken on
abbrev pub invariant-behind : goal.invariant-behind
invariant-behind l = record {
  enough : l.at ≤ length l.items;
  whole : l.items ++ reverse l.tail.items ≡ l.initial.items;
}

abbrev pub decreases-behind : goal.decreases-behind
decreases-behind l = length l.items
