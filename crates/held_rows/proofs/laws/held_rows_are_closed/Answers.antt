use Rattle.held_rows.proofs.Unique.{closing_behind}
use Rattle.held_rows.proofs.laws.held_rows_are_closed.Goals as goal

pub returns : goal.returns
returns c = closing_behind
