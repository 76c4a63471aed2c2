use Rattle.head_content.specs.Reading.{Adds, letters}
use Rattle.head_content.proofs.head_items.HeadItems.push_text.Given as goal

abbrev pub invariant-loop-letter : goal.invariant-loop-letter
invariant-loop-letter l = Adds l.fn.self l.self (letters l.yielded)
