use Rattle.std.proofs.Common.{chars, ap, ◌∙◌, arith}
use Rattle.std.proofs.lemmas.Str.{chars-nil}
use Rattle.number_text.proofs.cut.CutText.new.Goals as goal

pub invariant_of-result : goal.invariant_of-result
invariant_of-result c = rw (c.new.ensures.bytes, chars-nil) (omega arith)

pub returns : goal.returns
returns c = ap chars c.new.ensures.bytes ∙ chars-nil
