-- What holds nothing.
use Rattle.std.proofs.Common.{rules}
use Rattle.std.specs.Str.{chars}
use Rattle.content_write.proofs.pieces.push_what.Goals as goal

pub returns-in-Tab : goal.returns-in-Tab
unfolding chars
returns-in-Tab c = search rules

pub returns-in-Break : goal.returns-in-Break
unfolding chars
returns-in-Break c = search rules

pub returns-in-Note : goal.returns-in-Note
unfolding chars
returns-in-Note c = search rules
