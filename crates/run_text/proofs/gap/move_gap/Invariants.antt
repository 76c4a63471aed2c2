-- While the gap moves, the items outside it stay.
use Rattle.std.proofs.Common.{◌-◌, ◌≡◌, ◌+◌, ◌≤◌, length}
use Rattle.std.specs.List.{remove_range}
use Rattle.run_text.proofs.gap.move_gap.Given as goal

abbrev pub invariant-right : goal.invariant-right
invariant-right g l = record {
  within : l.start + l.width ≤ length l.cells;
  kept : remove_range l.cells l.start (l.start + l.width) ≡ remove_range l.initial.cells l.initial.start (l.initial.start + l.width);
}

abbrev pub decreases-right : goal.decreases-right
decreases-right g l = l.at - l.start

abbrev pub invariant-left : goal.invariant-left
invariant-left g l = record {
  within : l.start + l.width ≤ length l.cells;
  reached : l.at ≤ l.start;
  kept : remove_range l.cells l.start (l.start + l.width) ≡ remove_range l.initial.cells l.initial.start (l.initial.start + l.width);
}

abbrev pub decreases-left : goal.decreases-left
decreases-left g l = l.start - l.at
