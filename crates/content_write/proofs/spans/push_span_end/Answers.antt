use Rattle.std.specs.Str.{chars}
use Rattle.content_write.proofs.spans.push_span_end.Goals as goal

pub returns : goal.returns
unfolding chars
returns c = c.push_end.ensures
