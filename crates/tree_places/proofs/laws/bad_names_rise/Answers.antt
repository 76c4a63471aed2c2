use Rattle.tree_places.proofs.Resolved.{bad_rise}
use Rattle.tree_places.proofs.laws.bad_names_rise.Goals as goal

pub returns : goal.returns
returns c = bad_rise
