use Rattle.std.proofs.Common.{◌∙◌, chars, decimal}
use Rattle.std.proofs.lemmas.Str.{chars-IsAscii}
use Rattle.number_text.proofs.CutLemmas.{cut_same}
use Rattle.number_text.proofs.numbers.push_digits.Goals as goal

pub returns : goal.returns
returns c = cut_same c.push_str.result c.args.out.now c.push_str.new.self (chars c.format.result.now) (decimal c.args.number) (chars-IsAscii c.format.result.now c.format.ensures.ascii ∙ c.format.ensures.text) c.push_str.ensures
