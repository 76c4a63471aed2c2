use Rattle.row_checks.proofs.Guarded.{guarded_row}
use Rattle.row_checks.proofs.laws.protecting_sections_are_open.Goals as goal

pub returns : goal.returns
returns c = guarded_row
