use Rattle.legal_trees.proofs.Trees.{attributes_legal, nodes_legal}
use Rattle.legal_trees.proofs.laws.parts_are_legal.Goals as goal

pub returns : goal.returns
returns c = record { attributes = attributes_legal; nodes = nodes_legal }
