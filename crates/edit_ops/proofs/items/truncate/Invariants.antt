use Rattle.std.proofs.Common.{◌≡◌, ◌≤◌, length, take}
use Rattle.edit_ops.proofs.items.truncate.Given as goal

abbrev pub invariant-behind : goal.invariant-behind
invariant-behind l = record {
  enough : l.at ≤ length l.items;
  front : take l.at l.items ≡ take l.at l.initial.items;
}

abbrev pub decreases-behind : goal.decreases-behind
decreases-behind l = length l.items
