use Rattle.head_content.specs.Reading.{Adds, spaced_letters}
use Rattle.head_content.proofs.head_items.HeadItems.push_spaced.Given as goal

abbrev pub invariant-loop-letter : goal.invariant-loop-letter
invariant-loop-letter l = Adds l.fn.self l.self (spaced_letters l.yielded)
