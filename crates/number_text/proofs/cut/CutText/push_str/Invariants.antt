use Rattle.std.proofs.Common.{◌≡◌, ◌++◌}
use Rattle.field_model.specs.Cut.{cut}
use Rattle.number_text.proofs.cut.CutText.push_str.Given as goal

abbrev pub invariant-loop-letter : goal.invariant-loop-letter
invariant-loop-letter l = l.self ≡ cut (l.initial.self ++ l.yielded)
