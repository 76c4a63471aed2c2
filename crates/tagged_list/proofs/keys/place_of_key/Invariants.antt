use Rattle.std.proofs.Common.{◌-◌, ◌<◌, ◌≤◌, ℕ, length, get_or}
use Rattle.tagged_list.specs.Entries.{keys_of}
use Rattle.tagged_list.proofs.keys.place_of_key.Given as goal

abbrev pub invariant-halves : goal.invariant-halves
invariant-halves g l = record {
  order : l.low ≤ l.high;
  within : l.high ≤ length l.items;
  below : (k : ℕ) → k < l.low → get_or (keys_of l.items) k 0 < l.key;
  above : (k : ℕ) → l.high ≤ k → k < length l.items → l.key ≤ get_or (keys_of l.items) k 0;
}

abbrev pub decreases-halves : goal.decreases-halves
decreases-halves g l = l.high - l.low
