-- Digits in front of a text, and the number that they write.
use Rattle.std.proofs.Common.{◌≡◌, ℕ, ◌+◌, ◌-◌, ◌*◌, ◌/◌, ◌^◌, ◌<◌, ◌≤◌, Bool, true, false, cond, List, [], ◌∷◌, ◌++◌, length, take, drop, take_all, get_or, refl, sym, ap, ap₂, ◌∙◌, arith, suc, lit<}
use Rattle.std.specs.Char.{is_ascii_digit, digit_value}
use Rattle.std.specs.List.{prefix_len}
use Rattle.std.specs.Int.{IsInRange}
use Rattle.std.specs.Str.Parse.{AllDigits, digits_value, digits_value_after}
use Rattle.std.proofs.Math.Nat.{pow-suc, mul-add-div_right, pow-le-pow_right}
use Rattle.std.proofs.Math.Seq.{take-append_seam, drop-append_seam}
use Rattle.std.proofs.lemmas.Bool.Decides.{nat_tests}
use Rattle.std.proofs.lemmas.Int.Digits.{digits_value-lt, digits_value_more}
use Rattle.std.proofs.lemmas.Str.{digit_value_digit}
use Rattle.std.proofs.lemmas.Str.Parse.{digit_from_value, digit_at, digits_value-take-le}

-- a digit has a value below ten
value_of_digit : (c : ℕ) → is_ascii_digit c ≡ true → digit_value c < 10
value_of_digit c h = grind (arith, nat_tests, h)

is_digit_from_value : (c : ℕ) → digit_value c < 10 → is_ascii_digit c ≡ true
is_digit_from_value c h = let r : IsInRange 48 57 c = digit_from_value c h in grind (arith, nat_tests, r)

-- the digits that a text begins with are digits
pub leading_digits : (cs : List ℕ) → AllDigits 10 (take (prefix_len is_ascii_digit cs) cs)
leading_digits [] = tt
leading_digits (c ∷ cs) = by_test (leading_digits cs) (is_ascii_digit c) refl where
  by_test : AllDigits 10 (take (prefix_len is_ascii_digit cs) cs) → (b : Bool) → is_ascii_digit c ≡ b → AllDigits 10 (take (cond b (1 + prefix_len is_ascii_digit cs) 0) (c ∷ cs))
  by_test more true h = let e : 1 + prefix_len is_ascii_digit cs ≡ suc (prefix_len is_ascii_digit cs) = omega arith in rw e (value_of_digit c h, more)
  by_test more false h = tt

-- digits and then no digit begin with just these digits
digit_prefix : (ds rest : List ℕ) → AllDigits 10 ds → is_ascii_digit (get_or rest 0 0) ≡ false → prefix_len is_ascii_digit (ds ++ rest) ≡ length ds
digit_prefix [] [] h none = refl
digit_prefix [] (c ∷ rest) h none = ap (λ b. cond b (1 + prefix_len is_ascii_digit rest) 0) none
digit_prefix (d ∷ ds) rest h none = ap (λ b. cond b (1 + prefix_len is_ascii_digit (ds ++ rest)) 0) (is_digit_from_value d h.0) ∙ omega (arith, digit_prefix ds rest h.1 none)

pub digits_of_front : (ds rest text : List ℕ) (count : ℕ) → AllDigits 10 ds → is_ascii_digit (get_or rest 0 0) ≡ false → text ≡ ds ++ rest
    → count ≡ prefix_len is_ascii_digit text → (take count text ≡ ds) × (drop count text ≡ rest)
digits_of_front ds rest text count h none e n =
    let counted : count ≡ length ds = n ∙ ap (prefix_len is_ascii_digit) e ∙ digit_prefix ds rest h none in
    rw (counted, e) (take-append_seam ds rest, drop-append_seam ds rest)

-- the number that digits write behind others
one_more : (n d p q v : ℕ) → q ≡ p * 10 → (n * 10 + d) * p + v ≡ n * q + ((0 * 10 + d) * p + v)
one_more n d p q v e = let multiplied : n * q ≡ n * (p * 10) = ap (λ k. n * k) e in omega (arith, multiplied)

value_behind : (n : ℕ) (ds : List ℕ) → digits_value_after 10 n ds ≡ n * 10 ^ length ds + digits_value 10 ds
value_behind n [] = omega arith
value_behind n (d ∷ ds) =
    value_behind (n * 10 + digit_value d) ds
    ∙ one_more n (digit_value d) (10 ^ length ds) (10 ^ suc (length ds)) (digits_value 10 ds) (pow-suc 10 (length ds))
    ∙ ap (λ v. n * 10 ^ suc (length ds) + v) (sym (value_behind (0 * 10 + digit_value d) ds))

value_after_append : (n : ℕ) (ds es : List ℕ) → digits_value_after 10 n (ds ++ es) ≡ digits_value_after 10 (digits_value_after 10 n ds) es
value_after_append n [] es = refl
value_after_append n (d ∷ ds) es = value_after_append (n * 10 + digit_value d) ds es

pub value_append : (ds es : List ℕ) → digits_value 10 (ds ++ es) ≡ digits_value 10 ds * 10 ^ length es + digits_value 10 es
value_append ds es = value_after_append 0 ds es ∙ value_behind (digits_value 10 ds) es

ten : 0 < 10
ten = lit< tt

-- nine digits write a number below this
pub nine_digits : (ds : List ℕ) → AllDigits 10 ds → length ds ≤ 9 → digits_value 10 ds < 1000000000
nine_digits ds h few = let most : 10 ^ length ds ≤ 10 ^ 9 = pow-le-pow_right ten few in omega (arith, digits_value-lt 10 ds h, most)

pub power_within : (k : ℕ) → k ≤ 9 → (1 ≤ 10 ^ k) × (10 ^ k ≤ 1000000000)
power_within k few =
    let start : 0 ≤ k = omega arith in
    let most : 10 ^ k ≤ 10 ^ 9 = pow-le-pow_right ten few in
    let least : 10 ^ 0 ≤ 10 ^ k = pow-le-pow_right ten start in
    (least, most)

-- a step of the loop that reads a number
pub record IsStep (ds : List ℕ) (i number : ℕ) : Type 0 where
  pub least : 48 ≤ get_or ds i 0
  pub most : get_or ds i 0 ≤ 57
  pub next : number * 10 + (get_or ds i 0 - 48) ≡ digits_value 10 (take (i + 1) ds)
  pub below : number * 10 + (get_or ds i 0 - 48) < 1000000000

pub number_step : (ds : List ℕ) (i number : ℕ) → AllDigits 10 ds → length ds ≤ 9 → i < length ds → number ≡ digits_value 10 (take i ds) → IsStep ds i number
number_step ds i number h few inside e =
    let range : IsInRange 48 57 (get_or ds i 0) = digit_at ds i h inside in
    let value : digit_value (get_or ds i 0) + 48 ≡ get_or ds i 0 = digit_value_digit (get_or ds i 0) range in
    let next : number * 10 + (get_or ds i 0 - 48) ≡ digits_value 10 (take (i + 1) ds) = omega (arith, digits_value_more 10 ds i inside, value, e, range) in
    record {
      least = range.0;
      most = range.1;
      next = next;
      below = omega (arith, next, nine_digits ds h few, digits_value-take-le 10 ds (i + 1) (omega arith));
    }

-- the whole units of digits before and behind the point
pub whole_units : (a b units p : ℕ) → 0 < p → (a * p + b) * units / p ≡ a * units + b * units / p
whole_units a b units p h = let e : (a * p + b) * units ≡ a * units * p + b * units = omega arith in ap (λ n. n / p) e ∙ mul-add-div_right h (a * units) (b * units)

-- a text that begins with this byte, and what stands behind it
pub begins_with : (byte : ℕ) (text front back : List ℕ) → 1 ≤ length text → get_or text 0 0 ≡ byte → take (length text - 1) (drop 1 text) ≡ front ++ back → text ≡ byte ∷ (front ++ back)
begins_with byte [] front back h first e = absurd (omega (arith, h))
begins_with byte (x ∷ xs) front back h first e =
    let whole : take (suc (length xs) - 1) xs ≡ xs = take_all (suc (length xs) - 1) xs (omega arith) in
    ap₂ (λ y ys. y ∷ ys) first (sym whole ∙ e)
