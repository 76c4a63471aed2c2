-- Numbers are the same by the bytes and by the characters of a text.
use Rattle.std.proofs.Common.{◌≡◌, ℕ, Bool, true, false, not, ◌&&◌, List, [], ◌∷◌, refl, ap, sym, ◌∙◌, chars, bytes_eq, true≢false, IsUtf8, IsAscii, ◌==◌, drop, cond, arith, zero, suc, ◌<◌, ◌≤◌, Some, None, if◌then◌else◌, nat_le}
use Rattle.std.specs.List.{list_all}
use Rattle.std.specs.Str.Parse.{AllDigits, IsNumeral, without_leading_plus, digits_value}
use Rattle.std.proofs.lemmas.Str.{chars-IsAscii, chars-nil, encodes-chars, encodes-IsAscii, IsUtf8-from_ascii}
use Rattle.doc_model.proofs.SameText.{same_chars}
use Rattle.std.proofs.lemmas.Str.Ascii.{IsAscii-nil}
use Rattle.load_model.specs.Values.{is_digit, is_number, number, heading_level}

both_true : (left right : Bool) → (left && right) ≡ true → (left ≡ true) × (right ≡ true)
both_true true right e = (refl, e)
both_true false right e = absurd (true≢false (sym e))

digits_ascii : (text : List ℕ) → list_all is_digit text ≡ true → IsAscii text
digits_ascii [] e place = omega arith
digits_ascii (c ∷ cs) e zero = grind (arith, (both_true (is_digit c) (list_all is_digit cs) e).0)
digits_ascii (c ∷ cs) e (suc place) = digits_ascii cs (both_true (is_digit c) (list_all is_digit cs) e).1 place

alike : (left right : Bool) → (left ≡ true → right ≡ true) → (right ≡ true → left ≡ true) → left ≡ right
alike true right forth back = sym (forth refl)
alike false true forth back = back refl
alike false false forth back = refl

digits_same : (text : List ℕ) → IsUtf8 text → list_all is_digit text ≡ list_all is_digit (chars text)
digits_same text utf8 = alike (list_all is_digit text) (list_all is_digit (chars text)) forth back
  where
    forth : list_all is_digit text ≡ true → list_all is_digit (chars text) ≡ true
    forth e = ap (list_all is_digit) (chars-IsAscii text (digits_ascii text e)) ∙ e

    back : list_all is_digit (chars text) ≡ true → list_all is_digit text ≡ true
    back e = ap (list_all is_digit) (sym (encodes-chars text utf8) ∙ encodes-IsAscii (chars text) (digits_ascii (chars text) e)) ∙ e

pub number_by_bytes : (text : List ℕ) → IsUtf8 text → is_number text ≡ is_number (chars text)
number_by_bytes text utf8 = ap (λ none. not none && list_all is_digit text) (same_chars text [] utf8 (IsUtf8-from_ascii [] IsAscii-nil) ∙ ap (bytes_eq (chars text)) chars-nil) ∙ ap (λ all. not (bytes_eq (chars text) []) && all) (digits_same text utf8)

-- a number is ASCII
pub number_chars : (text : List ℕ) → is_number text ≡ true → chars text ≡ text
number_chars text e = chars-IsAscii text (digits_ascii text (both_true (not (bytes_eq text [])) (list_all is_digit text) e).1)

all_digits : (text : List ℕ) → list_all is_digit text ≡ true → AllDigits 10 text
all_digits [] e = tt
all_digits (c ∷ cs) e =
    let both = both_true (is_digit c) (list_all is_digit cs) e in
    (grind (arith, both.0), all_digits cs both.1)

pub is_numeral : (text : List ℕ) → is_number text ≡ true → IsNumeral 10 text
is_numeral [] e = absurd (true≢false (sym e))
is_numeral (c ∷ cs) e = (omega arith, all_digits (c ∷ cs) e)

pub no_plus : (text : List ℕ) → is_number text ≡ true → without_leading_plus text ≡ text
no_plus [] e = absurd (true≢false (sym e))
no_plus (c ∷ cs) e =
    let digit = (both_true (is_digit c) (list_all is_digit cs) e).0 in
    let other : (c == 43) ≡ false = grind (arith, digit) in
    ap (λ plus. drop (cond plus 1 0) (c ∷ cs)) other

first_fails : {X : Type 0} (one two three : Bool) (x : X) → one ≡ false → (if one && two && three then Some x else None) ≡ None
first_fails true two three x e = absurd (true≢false e)
first_fails false two three x e = refl

second_fails : {X : Type 0} (one two three : Bool) (x : X) → two ≡ false → (if one && two && three then Some x else None) ≡ None
second_fails false two three x e = refl
second_fails true true three x e = absurd (true≢false e)
second_fails true false three x e = refl

third_fails : {X : Type 0} (one two three : Bool) (x : X) → three ≡ false → (if one && two && three then Some x else None) ≡ None
third_fails false two three x e = refl
third_fails true false three x e = refl
third_fails true true true x e = absurd (true≢false e)
third_fails true true false x e = refl

all_hold : {X : Type 0} (one two three : Bool) (x : X) → one ≡ true → two ≡ true → three ≡ true → (if one && two && three then Some x else None) ≡ Some x
all_hold false two three x e f g = absurd (true≢false (sym e))
all_hold true false three x e f g = absurd (true≢false (sym f))
all_hold true true false x e f g = absurd (true≢false (sym g))
all_hold true true true x e f g = refl

module _ (least greatest : ℕ) (text : List ℕ) where
  pub number_not : is_number text ≡ false → number least greatest text ≡ None
  number_not e = first_fails (is_number text) (nat_le least (digits_value 10 text)) (nat_le (digits_value 10 text) greatest) (digits_value 10 text) e

  pub number_low : digits_value 10 text < least → number least greatest text ≡ None
  number_low low = second_fails (is_number text) (nat_le least (digits_value 10 text)) (nat_le (digits_value 10 text) greatest) (digits_value 10 text) (grind (arith, low))

  pub number_high : greatest < digits_value 10 text → number least greatest text ≡ None
  number_high high = third_fails (is_number text) (nat_le least (digits_value 10 text)) (nat_le (digits_value 10 text) greatest) (digits_value 10 text) (grind (arith, high))

  pub number_some : is_number text ≡ true → least ≤ digits_value 10 text → digits_value 10 text ≤ greatest → number least greatest text ≡ Some (digits_value 10 text)
  number_some e low high = all_hold (is_number text) (nat_le least (digits_value 10 text)) (nat_le (digits_value 10 text) greatest) (digits_value 10 text) e (grind (arith, low)) (grind (arith, high))

-- a number is the same by the bytes and by the characters
pub number_same : (least greatest : ℕ) (text : List ℕ) → IsUtf8 text → number least greatest text ≡ number least greatest (chars text)
number_same least greatest text utf8 = by (is_number text) refl
  where
    by : (is : Bool) → is_number text ≡ is → number least greatest text ≡ number least greatest (chars text)
    by true e = ap (number least greatest) (sym (number_chars text e))
    by false e = number_not least greatest text e ∙ sym (number_not least greatest (chars text) (sym (number_by_bytes text utf8) ∙ e))

-- the level of a heading
module _ (text : List ℕ) where
  by_tests : (one two three : Bool) → is_number text ≡ one → nat_le 1 (digits_value 10 text) ≡ two → nat_le (digits_value 10 text) 10 ≡ three → heading_level text ≡ (if one && two then Some (if three then digits_value 10 text else 10) else None)
  by_tests one two three e f g = ap (λ is. if is && nat_le 1 (digits_value 10 text) then Some (if nat_le (digits_value 10 text) 10 then digits_value 10 text else 10) else None) e ∙ ap (λ is. if one && is then Some (if nat_le (digits_value 10 text) 10 then digits_value 10 text else 10) else None) f ∙ ap (λ is. if one && two then Some (if is then digits_value 10 text else 10) else None) g

  pub heading_not : is_number text ≡ false → heading_level text ≡ None
  heading_not e = by_tests false (nat_le 1 (digits_value 10 text)) (nat_le (digits_value 10 text) 10) e refl refl

  pub heading_low : is_number text ≡ true → digits_value 10 text < 1 → heading_level text ≡ None
  heading_low e low = by_tests true false (nat_le (digits_value 10 text) 10) e (grind (arith, low)) refl

  pub heading_high : is_number text ≡ true → 10 < digits_value 10 text → heading_level text ≡ Some 10
  heading_high e high = by_tests true true false e (grind (arith, high)) (grind (arith, high))

  pub heading_some : is_number text ≡ true → 1 ≤ digits_value 10 text → digits_value 10 text ≤ 10 → heading_level text ≡ Some (digits_value 10 text)
  heading_some e low high = by_tests true true true e (grind (arith, low)) (grind (arith, high))

pub heading_same : (text : List ℕ) → IsUtf8 text → heading_level text ≡ heading_level (chars text)
heading_same text utf8 = by (is_number text) refl
  where
    by : (is : Bool) → is_number text ≡ is → heading_level text ≡ heading_level (chars text)
    by true e = ap heading_level (sym (number_chars text e))
    by false e = heading_not text e ∙ sym (heading_not (chars text) (sym (number_by_bytes text utf8) ∙ e))
