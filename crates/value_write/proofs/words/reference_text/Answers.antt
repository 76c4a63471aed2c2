-- Each word as it stands.
use Rattle.std.proofs.Common.{ap, sym}
use Rattle.std.specs.Str.{chars}
use Rattle.written_model.specs.Values as named
use Rattle.value_write.proofs.words.reference_text.Goals as goal

pub returns-in-Text : goal.returns-in-Text
unfolding chars
returns-in-Text c = ap named.reference_text (sym c.in-Text.is)

pub returns-in-Page : goal.returns-in-Page
unfolding chars
returns-in-Page c = ap named.reference_text (sym c.in-Page.is)

pub returns-in-Chapter : goal.returns-in-Chapter
unfolding chars
returns-in-Chapter c = ap named.reference_text (sym c.in-Chapter.is)

pub returns-in-Direction : goal.returns-in-Direction
unfolding chars
returns-in-Direction c = ap named.reference_text (sym c.in-Direction.is)
