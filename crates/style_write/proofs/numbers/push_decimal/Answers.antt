use Rattle.std.proofs.Common.{arith}
use Rattle.style_write.proofs.DigitLemmas.{printed}
use Rattle.style_write.proofs.numbers.push_decimal.Goals as goal

pub returns : goal.returns
returns c = printed c.write_decimal.result c.args.out.now _ c.args.number (omega (arith, c.ranges.number.fits)) c.write_decimal.ensures
