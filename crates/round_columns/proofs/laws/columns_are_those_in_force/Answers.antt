use Rattle.round_columns.proofs.Columns.{columns_here}
use Rattle.round_columns.proofs.laws.columns_are_those_in_force.Goals as goal

pub returns : goal.returns
returns c = λ doc before after own one force. columns_here doc before after own one force
