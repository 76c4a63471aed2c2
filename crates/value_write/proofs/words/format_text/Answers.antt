-- Each word as it stands.
use Rattle.std.proofs.Common.{ap, sym}
use Rattle.std.specs.Str.{chars}
use Rattle.written_model.specs.Values as named
use Rattle.value_write.proofs.words.format_text.Goals as goal

pub returns-in-Digits : goal.returns-in-Digits
unfolding chars
returns-in-Digits c = ap named.format_text (sym c.in-Digits.is)

pub returns-in-LowerLetter : goal.returns-in-LowerLetter
unfolding chars
returns-in-LowerLetter c = ap named.format_text (sym c.in-LowerLetter.is)

pub returns-in-UpperLetter : goal.returns-in-UpperLetter
unfolding chars
returns-in-UpperLetter c = ap named.format_text (sym c.in-UpperLetter.is)

pub returns-in-LowerRoman : goal.returns-in-LowerRoman
unfolding chars
returns-in-LowerRoman c = ap named.format_text (sym c.in-LowerRoman.is)

pub returns-in-UpperRoman : goal.returns-in-UpperRoman
unfolding chars
returns-in-UpperRoman c = ap named.format_text (sym c.in-UpperRoman.is)

pub returns-in-Empty : goal.returns-in-Empty
unfolding chars
returns-in-Empty c = ap named.format_text (sym c.in-Empty.is)
