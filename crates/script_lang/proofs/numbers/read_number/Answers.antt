use Rattle.std.specs.Prelude.{◌==◌}
use Rattle.std.proofs.Common.{◌≡◌, ℕ, false, List, [], ◌∷◌, length, take, get_or, arith, sym, ap, ◌∙◌, take_all}
use Rattle.std.specs.Char.{IsAsciiDigit}
use Rattle.std.specs.Str.Parse.{digits_value}
use Rattle.std.proofs.lemmas.Int.Digits.{digits_value_more}
use Rattle.std.proofs.lemmas.List.Elements.{All-more, All-same}
use Rattle.std.proofs.lemmas.Str.{digit_value_digit}
use Rattle.script_lang.proofs.CutLemmas.{digits_value_front, Each-from_All}
use Rattle.script_lang.proofs.numbers.read_number.Goals as goal

ne_nil : (digits : List ℕ) → false ≡ (length digits == 0) → digits ≡ [] → ⊥
ne_nil [] e none = cc
ne_nil (d ∷ digits) e none = cc

pub returns-in_err-checked_mul : goal.returns-in_err-checked_mul
returns-in_err-checked_mul c =
    let front = digits_value_front 10 c.args.digits.now c.loop-digit.digit-index (omega arith) c.loop-digit-test.true in
    rw c.from_residual.ensures (λ number h. c.in_err-checked_mul.ensures (omega (arith, front, h.2, h.3, c.loop-digit.invariant.1)))

pub returns-in_err-number : goal.returns-in_err-number
returns-in_err-number c =
    let front = digits_value_front 10 c.args.digits.now c.loop-digit.digit-index (omega arith) c.loop-digit-test.true in
    let digit = digit_value_digit (get_or c.args.digits.now c.loop-digit.digit-index 0) c.if-not-is_ascii_digit.ensures.cases in
    rw c.from_residual-in_err-number.ensures
    (λ number h. c.in_err-number.ensures (omega (arith, front, digit, h.2, h.3, c.loop-digit.invariant.1, c.in_ok-checked_mul.ensures.1, c.from.ensures)))

pub loop-digit-preserved : goal.loop-digit-preserved
loop-digit-preserved c =
    let digits = c.args.digits.now in
    let at = c.loop-digit.digit-index in
    let more = digits_value_more 10 digits at c.loop-digit-test.true in
    let digit = digit_value_digit (get_or digits at 0) c.if-not-is_ascii_digit.ensures.cases in (
      All-more IsAsciiDigit digits at 0 c.loop-digit-test.true c.loop-digit.invariant.0 c.if-not-is_ascii_digit.ensures.cases,
      omega (arith, more, digit, c.loop-digit.invariant.1, c.in_ok-checked_mul.ensures.1, c.in_ok-number.ensures.1, c.from.ensures),
      omega (arith, c.in_ok-number.ensures.0, c.in_ok-number.ensures.1),
    )

pub returns-else-is_empty : goal.returns-else-is_empty
returns-else-is_empty c =
    let whole : take c.loop-digit.digit-index c.args.digits.now ≡ c.args.digits.now = take_all c.loop-digit.digit-index c.args.digits.now (omega arith) in (
      (λ none. absurd (ne_nil c.args.digits.now c.if-is_empty.ensures none)),
      Each-from_All IsAsciiDigit c.args.digits.now (All-same IsAsciiDigit c.args.digits.now (take c.loop-digit.digit-index c.args.digits.now) (sym whole) c.loop-digit.invariant.0),
      ap (digits_value 10) (sym whole) ∙ sym c.loop-digit.invariant.1,
      c.loop-digit.invariant.2,
    )
