use Rattle.std.proofs.Common.{arith}
use Rattle.page_style.proofs.Texts.{said_by_parts, read_by_parts}
use Rattle.page_style.proofs.lengths.size_said.Goals as goal

pub returns-in-Some-clause-said : goal.returns-in-Some-clause-said
returns-in-Some-clause-said c =
    said_by_parts c.args.text.now c.cut_digits.result.0.now c.cut_digits.result.1.now c.cut_fraction.result.0.now c.cut_fraction.result.1.now c.in-Some.units c.size.result
    c.cut_digits.ensures.cut c.cut_digits.ensures.digits c.cut_fraction.ensures.cut c.cut_fraction.ensures.digits (omega arith) (omega arith) (omega arith) c.in-Some.ensures.given c.size.ensures

pub returns-in-Some-clause-read : goal.returns-in-Some-clause-read
returns-in-Some-clause-read c =
    read_by_parts c.args.text.now c.cut_digits.result.0.now c.cut_digits.result.1.now c.cut_fraction.result.0.now c.cut_fraction.result.1.now c.in-Some.units c.size.result
    c.cut_digits.ensures.only c.cut_fraction.ensures.only c.in-Some.ensures.only c.size.ensures
