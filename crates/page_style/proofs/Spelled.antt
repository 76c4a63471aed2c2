-- The spelling of a length says that length.
use Rattle.std.proofs.Common.{◌≡◌, ℕ, ℤ, pos, negsuc, ◌+◌, ◌*◌, ◌/◌, ◌%◌, ◌^◌, ◌<◌, ◌≤◌, ◌++◌, length, refl, ap, ap₂, ◌∙◌, arith, Some, unsigned_abs}
use Rattle.std.specs.Char.{digit_value}
use Rattle.std.specs.Fmt.{decimal}
use Rattle.std.specs.Int.{IsInRange}
use Rattle.std.specs.Str.Parse.{AllDigits, digits_value}
use Rattle.std.proofs.lemmas.Fmt.{decimal_is_IsNumeral, length-decimal-le}
use Rattle.std.proofs.lemmas.Int.{ints}
use Rattle.std.proofs.lemmas.Str.{digit_value_digit}
use Rattle.doc_model.specs.Ranges.{IsLength}
use Rattle.style_model.specs.Lengths.{Inch, signed, Says, is_below_zero, millionths, digit_at, six_digits, length_spelling}
use Rattle.page_style.proofs.Digits.{value_append}

digit_value_of : (x : ℕ) → x < 10 → digit_value (48 + x) ≡ x
digit_value_of x h = let range : IsInRange 48 57 (48 + x) = (omega arith, omega arith) in omega (arith, digit_value_digit (48 + x) range)

at_place : (number place : ℕ) → digit_value (digit_at number place) ≡ number / place % 10
at_place number place = digit_value_of (number / place % 10) (omega arith)

is_digit_at : (number place : ℕ) → digit_value (digit_at number place) < 10
is_digit_at number place = omega (arith, at_place number place)

six_are_digits : (number : ℕ) → AllDigits 10 (six_digits number)
six_are_digits number = (is_digit_at number 100000, (is_digit_at number 10000, (is_digit_at number 1000, (is_digit_at number 100, (is_digit_at number 10, (is_digit_at number 1, tt))))))

value_of_six : (number : ℕ) → digits_value 10 (six_digits number) ≡ number % 1000000
value_of_six number =
    let a : number / 100000 / 10 ≡ number / 1000000 = omega arith in
    let b : number / 10000 / 10 ≡ number / 100000 = omega arith in
    let c : number / 1000 / 10 ≡ number / 10000 = omega arith in
    let d : number / 100 / 10 ≡ number / 1000 = omega arith in
    let e : number / 10 / 10 ≡ number / 100 = omega arith in
    let f : number / 1 ≡ number = omega arith in
    omega (arith, a, b, c, d, e, f, at_place number 100000, at_place number 10000, at_place number 1000, at_place number 100, at_place number 10, at_place number 1)

pub enough : (units : ℕ) → units * 1000000 ≤ millionths units * 914400
enough units = omega arith

pub least : (units more : ℕ) → units * 1000000 ≤ more * 914400 → millionths units ≤ more
least units more h = omega arith

size_again : (units : ℕ) → millionths units * 914400 / 1000000 ≡ units
size_again units = omega arith

few_inches : (units : ℕ) → units ≤ 100000000 → millionths units / 1000000 < 1000
few_inches units h = omega arith

value_of_spelling : (number : ℕ) → number / 1000000 < 1000 → digits_value 10 (decimal (number / 1000000) ++ six_digits number) ≡ number
value_of_spelling number h =
    let small : number / 1000000 < 2 ^ 64 = omega arith in
    let front : digits_value 10 (decimal (number / 1000000)) ≡ number / 1000000 = (decimal_is_IsNumeral (number / 1000000) small).1 in
    value_append (decimal (number / 1000000)) (six_digits number) ∙ ap₂ (λ a b. a * 1000000 + b) front (value_of_six number) ∙ omega arith

size_of_length : (units : ℤ) → IsLength units → unsigned_abs units ≤ 100000000
size_of_length (pos n) h = omega (arith, ints, h)
size_of_length (negsuc n) h = omega (arith, ints, h)

signed_size : (units : ℤ) → signed (is_below_zero units) (unsigned_abs units) ≡ units
signed_size (pos n) = refl
signed_size (negsuc n) = refl

pub spelling_says : (units : ℤ) → IsLength units → Says (length_spelling units) units
spelling_says units h =
    let few : millionths (unsigned_abs units) / 1000000 < 1000 = few_inches (unsigned_abs units) (size_of_length units h) in
    let small : millionths (unsigned_abs units) / 1000000 < 2 ^ 64 = omega arith in
    let front : length (decimal (millionths (unsigned_abs units) / 1000000)) ≤ 3 = length-decimal-le 3 (millionths (unsigned_abs units) / 1000000) (omega arith) few small in (
      record { below_zero = is_below_zero units; whole = decimal (millionths (unsigned_abs units) / 1000000); fraction = Some (six_digits (millionths (unsigned_abs units))); measure = Inch },
      record {
        digits_before = (decimal_is_IsNumeral (millionths (unsigned_abs units) / 1000000) small).0.1;
        digits_behind = six_are_digits (millionths (unsigned_abs units));
        most_before = omega arith;
        most_behind = omega arith;
        one = omega arith;
      },
      refl,
      ap (λ n. signed (is_below_zero units) (n * 914400 / 1000000)) (value_of_spelling (millionths (unsigned_abs units)) few)
          ∙ ap (λ n. signed (is_below_zero units) n) (size_again (unsigned_abs units)) ∙ signed_size units,
    )
