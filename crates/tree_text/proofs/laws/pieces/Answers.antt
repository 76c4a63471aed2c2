use Rattle.tree_text.proofs.PieceLemmas.{attribute_added, run_added, child_added, empty_is, filled_is}
use Rattle.tree_text.proofs.laws.pieces.Goals as goal

pub returns-clause-attribute : goal.returns-clause-attribute
returns-clause-attribute c = attribute_added

pub returns-clause-run : goal.returns-clause-run
returns-clause-run c = run_added

pub returns-clause-child : goal.returns-clause-child
returns-clause-child c = child_added

pub returns-clause-empty : goal.returns-clause-empty
returns-clause-empty c = empty_is

pub returns-clause-filled : goal.returns-clause-filled
returns-clause-filled c = filled_is
