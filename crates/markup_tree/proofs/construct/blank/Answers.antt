-- White space, or something else.
use Rattle.markup_tree.proofs.ConstructLemmas.{blank_cut}
use Rattle.markup_tree.proofs.construct.blank.Goals as goal

pub returns-in_default-clause-read : goal.returns-in_default-clause-read
returns-in_default-clause-read c = blank_cut c.in_default.ensures.first
