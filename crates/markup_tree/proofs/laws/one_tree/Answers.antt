use Rattle.markup_tree.proofs.TreeLemmas.{one_tree, one_offence, tree_apart}
use Rattle.markup_tree.proofs.laws.one_tree.Goals as goal

pub returns-clause-tree : goal.returns-clause-tree
returns-clause-tree c = one_tree

pub returns-clause-offence : goal.returns-clause-offence
returns-clause-offence c = one_offence

pub returns-clause-apart : goal.returns-clause-apart
returns-clause-apart c = tree_apart
