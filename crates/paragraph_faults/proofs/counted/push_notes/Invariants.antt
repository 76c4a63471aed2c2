use Rattle.std.proofs.Common.{◌≡◌, ◌++◌, map, take}
use Rattle.std.specs.List.{flat_map}
use Rattle.paragraph_faults.specs.Counts.{counted_of, note_counts}
use Rattle.paragraph_faults.proofs.counted.push_notes.Given as goal

abbrev pub invariant-items : goal.invariant-items
invariant-items l = map counted_of l.counted.items ≡ map counted_of l.fn.counted.items ++ flat_map note_counts (take l.item-index l.items)
