-- Numbers are read back.
use Rattle.std.proofs.Common.{◌≡◌, ℕ, ℤ, pos, negsuc, neg_ℤ, ◌+◌, ◌<◌, ◌≤◌, ◌^◌, ◌==◌, Bool, true, false, ◌&&◌, cond, List, [], ◌∷◌, refl, ap, ap₂, ◌∙◌, arith, add-one, codes, bytes_eq, Some}
use Rattle.std.specs.Fmt.{decimal}
use Rattle.std.specs.Int.{IsInRange}
use Rattle.std.specs.List.{list_all}
use Rattle.std.specs.Option.{option_map}
use Rattle.std.specs.Str.Parse.{AllDigits, IsNumeral, digits_value}
use Rattle.std.proofs.lemmas.Fmt.{decimal_is_IsNumeral}
use Rattle.std.proofs.lemmas.Int.{ints}
use Rattle.std.proofs.lemmas.Str.Parse.{digit_from_value}
use Rattle.doc_model.specs.declared.style.PageStart.TheVariants as start
use Rattle.doc_model.specs.Ranges.{IsPageAdjust}
use Rattle.load_model.specs.Values as value
use Rattle.load_model.specs.Values.{is_digit, is_number, number, page_adjust, page_start}
use Rattle.read_values.proofs.Digits.{heading_some, number_some}
use Rattle.written_model.specs.Values.{whole_text}

digit_is : (c : ℕ) → IsInRange 48 57 c → is_digit c ≡ true
digit_is c range = grind (arith, range)

all_are : (text : List ℕ) → AllDigits 10 text → list_all is_digit text ≡ true
all_are [] are = refl
all_are (c ∷ cs) are = ap₂ (λ (one more : Bool). one && more) (digit_is c (digit_from_value c are.0)) (all_are cs are.1)

number_is : (text : List ℕ) → IsNumeral 10 text → is_number text ≡ true
number_is [] is = absurd (omega (arith, is.0))
number_is (c ∷ cs) is = all_are (c ∷ cs) is.1

pub number_back : (least greatest one : ℕ) → least ≤ one → one ≤ greatest → one < 2 ^ 64 → number least greatest (decimal one) ≡ Some one
number_back least greatest one low high small =
    let is = decimal_is_IsNumeral one small in
    let from : least ≤ digits_value 10 (decimal one) = rw is.1 low in
    let to : digits_value 10 (decimal one) ≤ greatest = rw is.1 high in
    number_some least greatest (decimal one) (number_is (decimal one) is.0) from to ∙ ap (λ n. Some n) is.1

pub heading_back : (one : ℕ) → 1 ≤ one → one ≤ 10 → value.heading_level (decimal one) ≡ Some one
heading_back one low high =
    let small : one < 2 ^ 64 = omega arith in
    let is = decimal_is_IsNumeral one small in
    let from : 1 ≤ digits_value 10 (decimal one) = rw is.1 low in
    let to : digits_value 10 (decimal one) ≤ 10 = rw is.1 high in
    heading_some (decimal one) (number_is (decimal one) is.0) from to ∙ ap (λ n. Some n) is.1

-- what isn't a number begins otherwise
other_text : (text : List ℕ) → IsNumeral 10 text → bytes_eq text (codes "auto") ≡ false
other_text [] is = absurd (omega (arith, is.0))
other_text (c ∷ cs) is =
    let range : IsInRange 48 57 c = digit_from_value c is.1.0 in
    let first : (c == 97) ≡ false = grind (arith, range) in
    ap (λ b. b && bytes_eq cs (codes "uto")) first

pub start_back : (one : ℕ) → one ≤ 65535 → page_start (decimal one) ≡ Some (start.At one)
start_back one high =
    let small : one < 2 ^ 64 = omega arith in
    let is = decimal_is_IsNumeral one small in
    ap (λ b. cond b (Some start.Auto) (option_map start.At (number 0 65535 (decimal one)))) (other_text (decimal one) is.0)
    ∙ ap (option_map start.At) (number_back 0 65535 one (omega arith) high small)

no_minus : (text : List ℕ) → IsNumeral 10 text → page_adjust text ≡ option_map pos (number 0 9999 text)
no_minus [] is = absurd (omega (arith, is.0))
no_minus (c ∷ cs) is =
    let range : IsInRange 48 57 c = digit_from_value c is.1.0 in
    let first : (c == 0x2d) ≡ false = grind (arith, range) in
    rw (first, page_adjust) refl

pub adjust_back : (one : ℤ) → IsPageAdjust one → page_adjust (whole_text one) ≡ Some one
adjust_back (pos one) within =
    let most : one ≤ 9999 = omega (arith, ints, within) in
    let small : one < 2 ^ 64 = omega arith in
    no_minus (decimal one) (decimal_is_IsNumeral one small).0 ∙ ap (option_map pos) (number_back 0 9999 one (omega arith) most small)
adjust_back (negsuc one) within =
    let most : one + 1 ≤ 9999 = omega (arith, ints, within) in
    let small : one + 1 < 2 ^ 64 = omega arith in
    ap (option_map (λ size. neg_ℤ (pos size))) (number_back 0 9999 (one + 1) (omega arith) most small) ∙ ap (λ n. Some (neg_ℤ (pos n))) (add-one one)
