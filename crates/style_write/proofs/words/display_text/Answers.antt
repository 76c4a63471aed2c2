-- Each word as it stands.
use Rattle.std.proofs.Common.{ap, sym}
use Rattle.std.specs.Str.{chars}
use Rattle.written_model.specs.Values as named
use Rattle.style_write.proofs.words.display_text.Goals as goal

pub returns-then-shown : goal.returns-then-shown
unfolding chars
returns-then-shown c = ap named.display_text (sym c.if-shown.true)

pub returns-else-shown : goal.returns-else-shown
unfolding chars
returns-else-shown c = ap named.display_text (sym c.if-shown.false)
