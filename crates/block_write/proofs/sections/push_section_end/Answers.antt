use Rattle.std.specs.Str.{chars}
use Rattle.block_write.proofs.sections.push_section_end.Goals as goal

pub returns : goal.returns
unfolding chars
returns c = c.push_close.ensures
