use Rattle.node_array.proofs.OneBody.{rows_known}
use Rattle.node_array.proofs.laws.same_rows.Goals as goal

pub returns : goal.returns
returns c = rows_known
