use Rattle.std.specs.Str.{chars}
use Rattle.element_text.proofs.pieces.push_empty_end.Goals as goal

pub returns : goal.returns
unfolding chars
returns c = c.push_plain.ensures
