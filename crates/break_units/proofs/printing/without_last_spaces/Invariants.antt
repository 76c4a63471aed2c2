use Rattle.std.proofs.Common.{◌≡◌, length}
use Rattle.line_model.specs.Lines.{without_last_spaces}
use Rattle.break_units.proofs.printing.without_last_spaces.Given as goal

abbrev pub invariant-spaces : goal.invariant-spaces
invariant-spaces l = without_last_spaces l.shown ≡ without_last_spaces l.fn.units

abbrev pub decreases-spaces : goal.decreases-spaces
decreases-spaces l = length l.shown
