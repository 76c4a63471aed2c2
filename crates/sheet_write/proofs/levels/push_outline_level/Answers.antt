use Rattle.std.specs.Str.{chars}
use Rattle.sheet_write.proofs.levels.push_outline_level.Goals as goal

pub returns : goal.returns
unfolding chars
returns c = c.push_numbering.ensures
