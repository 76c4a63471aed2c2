use Rattle.std.proofs.Common.{◌≡◌, ℕ, ◌+◌}
use Rattle.std.specs.List.{between}
use Rattle.std.specs.List.Sorted.{IsNonDecreasing}
use Rattle.tagged_list.specs.Entries.{spots_of}
use Rattle.tagged_list.specs.Keeps.{times}
use Rattle.tagged_list.proofs.spots.forget.Given as goal

abbrev pub invariant-loop-at : goal.invariant-loop-at
invariant-loop-at g l = record {
  sorted : IsNonDecreasing l.spots;
  left : (x : ℕ) → times x l.spots + times x (spots_of (between l.from l.at l.items)) ≡ times x l.fn.spots;
}
