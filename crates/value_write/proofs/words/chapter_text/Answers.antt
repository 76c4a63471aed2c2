-- Each word as it stands.
use Rattle.std.proofs.Common.{ap, sym}
use Rattle.std.specs.Str.{chars}
use Rattle.written_model.specs.Values as named
use Rattle.value_write.proofs.words.chapter_text.Goals as goal

pub returns-in-Name : goal.returns-in-Name
unfolding chars
returns-in-Name c = ap named.chapter_text (sym c.in-Name.is)

pub returns-in-Number : goal.returns-in-Number
unfolding chars
returns-in-Number c = ap named.chapter_text (sym c.in-Number.is)

pub returns-in-PlainNumber : goal.returns-in-PlainNumber
unfolding chars
returns-in-PlainNumber c = ap named.chapter_text (sym c.in-PlainNumber.is)

pub returns-in-NumberAndName : goal.returns-in-NumberAndName
unfolding chars
returns-in-NumberAndName c = ap named.chapter_text (sym c.in-NumberAndName.is)

pub returns-in-PlainNumberAndName : goal.returns-in-PlainNumberAndName
unfolding chars
returns-in-PlainNumberAndName c = ap named.chapter_text (sym c.in-PlainNumberAndName.is)
