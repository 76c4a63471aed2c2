use Rattle.std.proofs.Common.{◌-◌, ◌<◌, ◌≤◌, ℕ, length, get_or}
use Rattle.tagged_list.proofs.spots.place_of.Given as goal

abbrev pub invariant-halves : goal.invariant-halves
invariant-halves l = record {
  order : l.low ≤ l.high;
  within : l.high ≤ length l.spots;
  below : (k : ℕ) → k < l.low → get_or l.spots k 0 < l.spot;
  above : (k : ℕ) → l.high ≤ k → k < length l.spots → l.spot ≤ get_or l.spots k 0;
}

abbrev pub decreases-halves : goal.decreases-halves
decreases-halves l = l.high - l.low
