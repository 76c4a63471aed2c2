use Rattle.std.proofs.Common.{◌≡◌, ◌-◌, ◌≤◌, length}
use Rattle.style_tree.proofs.Shifts.{shifted_first}
use Rattle.style_tree.proofs.places.shift_all.Given as goal

abbrev pub invariant-entries : goal.invariant-entries
invariant-entries l = (l.places.entries ≡ shifted_first l.shift l.next l.fn.places.entries) × (l.count ≡ length l.fn.places.entries) × (l.next ≤ l.count)

abbrev pub decreases-entries : goal.decreases-entries
decreases-entries l = l.count - l.next
