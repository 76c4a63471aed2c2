use Rattle.std.specs.Str.{chars}
use Rattle.tree_text.specs.Writing.{declaration}
use Rattle.element_text.proofs.pieces.push_declaration.Goals as goal

pub returns : goal.returns
unfolding chars declaration
returns c = c.push_plain.ensures
