use Rattle.page_style.proofs.Digits.{leading_digits, digits_of_front}
use Rattle.page_style.proofs.figures.cut_digits.Goals as goal

pub returns-clause-digits : goal.returns-clause-digits
returns-clause-digits c = rw (c.split_at.ensures.front, c.digit_count.ensures.value) (leading_digits c.args.text.now)

pub returns-clause-only : goal.returns-clause-only
returns-clause-only c = λ digits rest are none e. rw (c.split_at.ensures.front, c.split_at.ensures.back) (digits_of_front digits rest c.args.text.now c.digit_count.result are none e c.digit_count.ensures.value)
