use Rattle.moved_rows.proofs.Moved.{moved_among}
use Rattle.moved_rows.proofs.laws.moved_rows.Goals as goal

pub returns : goal.returns
returns c = moved_among
