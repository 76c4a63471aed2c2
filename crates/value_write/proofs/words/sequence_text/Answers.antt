-- Each word as it stands.
use Rattle.std.proofs.Common.{ap, sym}
use Rattle.std.specs.Str.{chars}
use Rattle.written_model.specs.Values as named
use Rattle.value_write.proofs.words.sequence_text.Goals as goal

pub returns-in-Text : goal.returns-in-Text
unfolding chars
returns-in-Text c = ap named.sequence_text (sym c.in-Text.is)

pub returns-in-Page : goal.returns-in-Page
unfolding chars
returns-in-Page c = ap named.sequence_text (sym c.in-Page.is)

pub returns-in-Chapter : goal.returns-in-Chapter
unfolding chars
returns-in-Chapter c = ap named.sequence_text (sym c.in-Chapter.is)

pub returns-in-Direction : goal.returns-in-Direction
unfolding chars
returns-in-Direction c = ap named.sequence_text (sym c.in-Direction.is)

pub returns-in-Value : goal.returns-in-Value
unfolding chars
returns-in-Value c = ap named.sequence_text (sym c.in-Value.is)

pub returns-in-CategoryAndValue : goal.returns-in-CategoryAndValue
unfolding chars
returns-in-CategoryAndValue c = ap named.sequence_text (sym c.in-CategoryAndValue.is)

pub returns-in-Caption : goal.returns-in-Caption
unfolding chars
returns-in-Caption c = ap named.sequence_text (sym c.in-Caption.is)
