use Rattle.std.proofs.Common.{◌≡◌, ℕ, true, take, arith, sym, ap, ◌∙◌, take_all}
use Rattle.std.specs.Char.{is_ascii_hexdigit}
use Rattle.std.specs.Str.Parse.{digits_value}
use Rattle.std.proofs.lemmas.Int.Digits.{digits_value_more}
use Rattle.std.proofs.lemmas.List.Elements.{All-more, All-same}
use Rattle.script_lang.proofs.CutLemmas.{digits_value_front, Each-from_All}
use Rattle.script_lang.proofs.escapes.hex_value.Goals as goal

abbrev IsHex : ℕ → Type 0
IsHex digit = is_ascii_hexdigit digit ≡ true

pub returns-in_err-checked_mul : goal.returns-in_err-checked_mul
returns-in_err-checked_mul c =
    let front = digits_value_front 16 c.args.digits.now c.loop-digit.digit-index (omega arith) c.loop-digit-test.true in
    rw c.from_residual-in_err-checked_mul.ensures (λ number h. c.in_err-checked_mul.ensures (omega (arith, front, h.1, h.2, c.loop-digit.invariant.1)))

pub returns-in_err-number : goal.returns-in_err-number
returns-in_err-number c =
    let front = digits_value_front 16 c.args.digits.now c.loop-digit.digit-index (omega arith) c.loop-digit-test.true in
    rw c.from_residual-in_err-number.ensures
    (λ number h. c.in_err-number.ensures (omega (arith, front, h.1, h.2, c.loop-digit.invariant.1, c.in_ok-value.ensures.1, c.in_ok-checked_mul.ensures.1)))

pub loop-digit-preserved : goal.loop-digit-preserved
loop-digit-preserved c =
    let digits = c.args.digits.now in
    let at = c.loop-digit.digit-index in
    let more = digits_value_more 16 digits at c.loop-digit-test.true in (
      All-more IsHex digits at 0 c.loop-digit-test.true c.loop-digit.invariant.0 c.in_ok-value.ensures.0,
      omega (arith, more, c.in_ok-value.ensures.1, c.loop-digit.invariant.1, c.in_ok-checked_mul.ensures.1, c.in_ok-number.ensures.1),
      omega (arith, c.in_ok-number.ensures.0, c.in_ok-number.ensures.1),
    )

pub returns : goal.returns
returns c =
    let whole : take c.loop-digit.digit-index c.args.digits.now ≡ c.args.digits.now = take_all c.loop-digit.digit-index c.args.digits.now (omega arith) in (
      Each-from_All IsHex c.args.digits.now (All-same IsHex c.args.digits.now (take c.loop-digit.digit-index c.args.digits.now) (sym whole) c.loop-digit.invariant.0),
      ap (digits_value 16) (sym whole) ∙ sym c.loop-digit.invariant.1,
      c.loop-digit.invariant.2,
    )
