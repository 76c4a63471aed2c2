-- Each word as it stands.
use Rattle.std.proofs.Common.{ap, sym}
use Rattle.std.specs.Str.{chars}
use Rattle.written_model.specs.Values as named
use Rattle.value_write.proofs.words.class_text.Goals as goal

pub returns-in-Footnote : goal.returns-in-Footnote
unfolding chars
returns-in-Footnote c = ap named.class_text (sym c.in-Footnote.is)

pub returns-in-Endnote : goal.returns-in-Endnote
unfolding chars
returns-in-Endnote c = ap named.class_text (sym c.in-Endnote.is)
