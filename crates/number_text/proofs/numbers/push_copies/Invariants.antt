use Rattle.std.proofs.Common.{◌≡◌, ◌++◌, replicate}
use Rattle.field_model.specs.Cut.{cut}
use Rattle.number_text.proofs.numbers.push_copies.Given as goal

abbrev pub invariant-loop : goal.invariant-loop
invariant-loop l = l.out ≡ cut (l.initial.out ++ replicate l.counter l.letter)
