use Rattle.tree_places.proofs.Spelled.{spelled_in_order}
use Rattle.tree_places.proofs.laws.spelled_trees_are_in_order.Goals as goal

pub returns : goal.returns
returns c = spelled_in_order
