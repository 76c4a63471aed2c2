use Rattle.std.proofs.Common.{◌-◌, [], ◌∷◌, replicate, arith}
use Rattle.field_model.specs.Numbers.{roman_digit}
use Rattle.number_text.proofs.CutLemmas.{cut_last}
use Rattle.number_text.proofs.Romans.{nine, from_five, four}
use Rattle.number_text.proofs.numbers.push_roman_digit.Goals as goal

pub returns-then-digit-eq9 : goal.returns-then-digit-eq9
returns-then-digit-eq9 c = cut_last c.push-then-digit-eq9.result c.args.out.now c.push.new.self c.push-then-digit-eq9.new.self (c.args.one ∷ []) (c.args.ten ∷ []) (roman_digit c.args.one c.args.five c.args.ten c.args.digit)
    c.in_ok-push.ensures.ok (nine c.args.one c.args.five c.args.ten c.args.digit (omega arith)) c.push-then-digit-eq9.ensures.ok

pub returns-then-digit-ge5 : goal.returns-then-digit-ge5
returns-then-digit-ge5 c = cut_last c.push_copies.result c.args.out.now c.push-then-digit-ge5.new.self c.push_copies.new.out (c.args.five ∷ []) (replicate (c.args.digit - 5) c.args.one) (roman_digit c.args.one c.args.five c.args.ten c.args.digit)
    c.in_ok-push-2.ensures.ok (from_five c.args.one c.args.five c.args.ten c.args.digit c.if-digit-eq9.false c.if-digit-ge5.true) c.push_copies.ensures

pub returns-then-digit-eq4 : goal.returns-then-digit-eq4
returns-then-digit-eq4 c = cut_last c.push-then-digit-eq4-2.result c.args.out.now c.push-then-digit-eq4.new.self c.push-then-digit-eq4-2.new.self (c.args.one ∷ []) (c.args.five ∷ []) (roman_digit c.args.one c.args.five c.args.ten c.args.digit)
    c.in_ok-push-3.ensures.ok (four c.args.one c.args.five c.args.ten c.args.digit (omega arith)) c.push-then-digit-eq4-2.ensures.ok
