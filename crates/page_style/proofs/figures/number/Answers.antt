use Rattle.std.proofs.Common.{◌+◌, ◌*◌, ◌∙◌, ap, arith}
use Rattle.std.proofs.lemmas.Str.Parse.{digits_value-take-le}
use Rattle.page_style.proofs.Digits.{number_step, nine_digits}
use Rattle.page_style.proofs.figures.number.Goals as goal

pub overflow_mul-number : goal.overflow_mul-number
overflow_mul-number c =
    let step = number_step c.args.digits.now c.loop-digit.digit-index c.loop-digit.number c.requires.digits c.requires.few c.loop-digit-test.true c.loop-digit.invariant in
    omega (arith, step.below)

pub overflow_sub-digit : goal.overflow_sub-digit
overflow_sub-digit c =
    (number_step c.args.digits.now c.loop-digit.digit-index c.loop-digit.number c.requires.digits c.requires.few c.loop-digit-test.true c.loop-digit.invariant).least

pub overflow_add-number : goal.overflow_add-number
overflow_add-number c =
    let step = number_step c.args.digits.now c.loop-digit.digit-index c.loop-digit.number c.requires.digits c.requires.few c.loop-digit-test.true c.loop-digit.invariant in
    omega (arith, step.below, c.from.ensures)

pub loop-digit-preserved : goal.loop-digit-preserved
loop-digit-preserved c =
    let step = number_step c.args.digits.now c.loop-digit.digit-index c.loop-digit.number c.requires.digits c.requires.few c.loop-digit-test.true c.loop-digit.invariant in
    ap (λ digit. c.loop-digit.number * 10 + digit) c.from.ensures ∙ step.next

pub returns-clause-most : goal.returns-clause-most
returns-clause-most c = omega (arith, c.loop-digit.invariant, nine_digits c.args.digits.now c.requires.digits c.requires.few, digits_value-take-le 10 c.args.digits.now c.loop-digit.digit-index (omega arith))
