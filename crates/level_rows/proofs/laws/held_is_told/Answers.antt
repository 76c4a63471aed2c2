use Rattle.level_rows.proofs.HeldFrom.{held_told, order_told}
use Rattle.level_rows.proofs.laws.held_is_told.Goals as goal

pub returns : goal.returns
returns c = record { held = held_told; order = order_told }
