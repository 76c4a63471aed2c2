use Rattle.std.proofs.Common.{◌≡◌, ℕ, ◌+◌, ◌<◌, length, get_or}
use Rattle.list_num.specs.Counters.{count_behind, place_of}
use Rattle.list_num.proofs.counters.counters_behind.Given as goal

abbrev pub invariant-levels : goal.invariant-levels
invariant-levels l = record {
  whole : length l.next ≡ 10;
  counted : (index : ℕ) → index < l.index → get_or l.next index 0 ≡ count_behind (index + 1) (place_of l.step) (get_or l.counters index 0);
}
