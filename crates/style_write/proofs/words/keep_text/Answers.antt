-- Each word as it stands.
use Rattle.std.proofs.Common.{ap, sym}
use Rattle.std.specs.Str.{chars}
use Rattle.written_model.specs.Values as named
use Rattle.style_write.proofs.words.keep_text.Goals as goal

pub returns-then-keep : goal.returns-then-keep
unfolding chars
returns-then-keep c = ap named.keep_text (sym c.if-keep.true)

pub returns-else-keep : goal.returns-else-keep
unfolding chars
returns-else-keep c = ap named.keep_text (sym c.if-keep.false)
