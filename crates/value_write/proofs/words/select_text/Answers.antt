-- Each word as it stands.
use Rattle.std.proofs.Common.{ap, sym}
use Rattle.std.specs.Str.{chars}
use Rattle.written_model.specs.Values as named
use Rattle.value_write.proofs.words.select_text.Goals as goal

pub returns-in-Previous : goal.returns-in-Previous
unfolding chars
returns-in-Previous c = ap named.select_text (sym c.in-Previous.is)

pub returns-in-Current : goal.returns-in-Current
unfolding chars
returns-in-Current c = ap named.select_text (sym c.in-Current.is)

pub returns-in-Next : goal.returns-in-Next
unfolding chars
returns-in-Next c = ap named.select_text (sym c.in-Next.is)
