use Rattle.break_units.proofs.Printed.{end_of-last}
use Rattle.break_units.proofs.printing.end_of.Goals as goal

pub returns-in-Some : goal.returns-in-Some
returns-in-Some c = end_of-last 0 c.args.units.now c.in-Some.field-0-1.now c.in-Some.last.now c.in-Some.ensures.cases.0
