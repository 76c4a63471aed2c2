use Rattle.level_rows.proofs.HeldFrom.{join_told, together_told}
use Rattle.level_rows.proofs.laws.togetherness_is_told.Goals as goal

pub returns : goal.returns
returns c = record { two = join_told; all = together_told }
