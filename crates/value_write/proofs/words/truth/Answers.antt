-- Each word as it stands.
use Rattle.std.proofs.Common.{ap, sym}
use Rattle.std.specs.Str.{chars}
use Rattle.written_model.specs.Values as named
use Rattle.value_write.proofs.words.truth.Goals as goal

pub returns-then-on : goal.returns-then-on
unfolding chars
returns-then-on c = ap named.truth (sym c.if-on.true)

pub returns-else-on : goal.returns-else-on
unfolding chars
returns-else-on c = ap named.truth (sym c.if-on.false)
