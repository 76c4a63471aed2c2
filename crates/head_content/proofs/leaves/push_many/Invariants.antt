use Rattle.std.specs.Prelude.{replicate}
use Rattle.head_content.specs.Reading.{Adds, letter_item, only_items}
use Rattle.head_content.proofs.leaves.push_many.Given as goal

abbrev pub invariant-spaces : goal.invariant-spaces
invariant-spaces l = Adds l.fn.read l.read (only_items (replicate l._at (letter_item 0x20)))
