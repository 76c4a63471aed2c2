-- The characters up to the end.
use Rattle.std.specs.Str.{chars}
use Rattle.markup_parts.proofs.skipped.cdata.Goals as goal

pub returns-clause-read : goal.returns-clause-read
unfolding chars
returns-clause-read c = c.up_to.ensures.read
