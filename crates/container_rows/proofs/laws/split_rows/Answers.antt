use Rattle.container_rows.proofs.Split.{split_among}
use Rattle.container_rows.proofs.laws.split_rows.Goals as goal

pub returns : goal.returns
returns c = split_among
