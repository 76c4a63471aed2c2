use Rattle.std.proofs.Common.{◌^◌, length, arith}
use Rattle.std.specs.Str.Parse.{digits_value}
use Rattle.page_style.proofs.Digits.{power_within, value_append, whole_units}
use Rattle.page_style.proofs.figures.size.Goals as goal

pub nonzero_div-result : goal.nonzero_div-result
nonzero_div-result c = let power = power_within (length c.args.fraction.now) c.requires.fraction_few in omega (arith, power.0, c.pow-parts.ensures)

pub returns : goal.returns
returns c =
    let power = power_within (length c.args.fraction.now) c.requires.fraction_few in
    let units = whole_units (digits_value 10 c.args.whole.now) (digits_value 10 c.args.fraction.now) c.args.units (10 ^ length c.args.fraction.now) power.0 in
    let value = value_append c.args.whole.now c.args.fraction.now in
    cc (units, value)
