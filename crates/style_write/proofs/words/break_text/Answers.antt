-- Each word as it stands.
use Rattle.std.proofs.Common.{ap, sym}
use Rattle.std.specs.Str.{chars}
use Rattle.written_model.specs.Values as named
use Rattle.style_write.proofs.words.break_text.Goals as goal

pub returns-in-Auto : goal.returns-in-Auto
unfolding chars
returns-in-Auto c = ap named.break_text (sym c.in-Auto.is)

pub returns-in-Column : goal.returns-in-Column
unfolding chars
returns-in-Column c = ap named.break_text (sym c.in-Column.is)

pub returns-in-Page : goal.returns-in-Page
unfolding chars
returns-in-Page c = ap named.break_text (sym c.in-Page.is)
