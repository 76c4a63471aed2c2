use Rattle.legal_trees.proofs.Spelled.{spelled_legal}
use Rattle.legal_trees.proofs.laws.spelled_trees_are_legal.Goals as goal

pub returns : goal.returns
returns c = spelled_legal
