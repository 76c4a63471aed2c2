use Rattle.tree_places.proofs.Resolved.{resolved_in_order}
use Rattle.tree_places.proofs.laws.resolved_trees_are_in_order.Goals as goal

pub returns : goal.returns
returns c = resolved_in_order
