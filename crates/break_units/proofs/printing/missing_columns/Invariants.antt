use Rattle.std.proofs.Common.{◌≡◌, ◌-◌, drop}
use Rattle.line_model.specs.Lines.{columns_of}
use Rattle.break_units.proofs.printing.missing_columns.Given as goal

abbrev pub invariant-loop-unit : goal.invariant-loop-unit
invariant-loop-unit l = l.missing - columns_of (drop l.unit-index l.units) ≡ l.width - columns_of l.units
