use Rattle.std.proofs.Common.{◌≡◌, ℕ, ◌+◌, take}
use Rattle.std.specs.List.Sorted.{IsNonDecreasing}
use Rattle.tagged_list.specs.Entries.{spots_of}
use Rattle.tagged_list.specs.Keeps.{times}
use Rattle.tagged_list.proofs.spots.remember.Given as goal

abbrev pub invariant-loop-entry : goal.invariant-loop-entry
invariant-loop-entry g l = record {
  sorted : IsNonDecreasing l.spots;
  more : (x : ℕ) → times x l.spots ≡ times x l.fn.spots + times x (spots_of (take l.entry-index l.entries));
}
