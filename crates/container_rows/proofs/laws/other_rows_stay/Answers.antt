use Rattle.container_rows.proofs.Changed.{changed_from}
use Rattle.container_rows.proofs.laws.other_rows_stay.Goals as goal

pub returns : goal.returns
returns c = changed_from
