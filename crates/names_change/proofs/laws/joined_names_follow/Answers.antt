use Rattle.names_change.proofs.Join.{join_follows}
use Rattle.names_change.proofs.laws.joined_names_follow.Goals as goal

pub returns : goal.returns
returns c = join_follows
