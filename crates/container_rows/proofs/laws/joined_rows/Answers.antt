use Rattle.container_rows.proofs.Join.{join_among}
use Rattle.container_rows.proofs.laws.joined_rows.Goals as goal

pub returns : goal.returns
returns c = join_among
