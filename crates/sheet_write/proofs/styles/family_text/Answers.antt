-- Each word as it stands.
use Rattle.std.proofs.Common.{ap, sym}
use Rattle.std.specs.Str.{chars}
use Rattle.written_model.specs.Values as named
use Rattle.sheet_write.proofs.styles.family_text.Goals as goal

pub returns-in-Paragraph : goal.returns-in-Paragraph
unfolding chars
returns-in-Paragraph c = ap named.family_text (sym c.in-Paragraph.is)

pub returns-in-Text : goal.returns-in-Text
unfolding chars
returns-in-Text c = ap named.family_text (sym c.in-Text.is)

pub returns-in-Section : goal.returns-in-Section
unfolding chars
returns-in-Section c = ap named.family_text (sym c.in-Section.is)
