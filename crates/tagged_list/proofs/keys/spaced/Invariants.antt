use Rattle.std.proofs.Common.{◌≡◌, ◌<◌, ◌≤◌, ◌^◌, take}
use Rattle.std.specs.Prelude.{All}
use Rattle.tagged_list.specs.Entries.{keys_of, tagged_of}
use Rattle.tagged_list.specs.Keeps.{Rises}
use Rattle.tagged_list.proofs.keys.spaced.Given as goal

abbrev pub invariant-loop-item : goal.invariant-loop-item
invariant-loop-item g l = record {
  tagged : tagged_of l.entries.items ≡ take l.item-index l.tagged;
  rising : Rises (keys_of l.entries.items);
  above : All (λ key. l.first < key) (keys_of l.entries.items);
  below : All (λ key. key < l.last) (keys_of l.entries.items);
  upto : All (λ key. key ≤ l.key) (keys_of l.entries.items);
  bounded : All (λ key. key < 2 ^ 64) (keys_of l.entries.items);
  from : l.first ≤ l.key;
}
