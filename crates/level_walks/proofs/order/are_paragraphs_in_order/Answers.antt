use Rattle.level_walks.proofs.Ordered.{together_is}
use Rattle.level_walks.proofs.order.are_paragraphs_in_order.Goals as goal

pub returns : goal.returns
returns c = λ doc same apart live. together_is doc c.args.rows.now c.args.first c.args.last c.comes_to.result same apart live c.requires.flat c.requires.apart c.comes_to.ensures
