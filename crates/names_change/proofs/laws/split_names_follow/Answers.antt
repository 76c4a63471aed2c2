use Rattle.names_change.proofs.Split.{split_follows}
use Rattle.names_change.proofs.laws.split_names_follow.Goals as goal

pub returns : goal.returns
returns c = split_follows
