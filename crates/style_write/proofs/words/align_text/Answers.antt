-- Each word as it stands.
use Rattle.std.proofs.Common.{ap, sym}
use Rattle.std.specs.Str.{chars}
use Rattle.written_model.specs.Values as named
use Rattle.style_write.proofs.words.align_text.Goals as goal

pub returns-in-Start : goal.returns-in-Start
unfolding chars
returns-in-Start c = ap named.align_text (sym c.in-Start.is)

pub returns-in-Center : goal.returns-in-Center
unfolding chars
returns-in-Center c = ap named.align_text (sym c.in-Center.is)

pub returns-in-End : goal.returns-in-End
unfolding chars
returns-in-End c = ap named.align_text (sym c.in-End.is)
