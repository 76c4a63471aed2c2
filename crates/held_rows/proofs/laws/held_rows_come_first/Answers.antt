use Rattle.held_rows.proofs.HeldFrom.{held_from_row}
use Rattle.held_rows.proofs.laws.held_rows_come_first.Goals as goal

pub returns : goal.returns
returns c = held_from_row
