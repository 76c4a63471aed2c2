-- A text is read as the length that it says.
use Rattle.std.proofs.Common.{◌≡◌, ℕ, ℤ, ◌+◌, ◌≤◌, Bool, true, false, ◌&&◌, cond, List, [], ◌∷◌, ◌++◌, map, find, length, take, drop, get_or, refl, sym, ap, ◌∙◌, arith, subst, codes, chars, bytes_eq, IsUtf8, IsAscii, true≢false, zero, suc, add-one, nat_le, ◌==◌, if◌then◌else◌, Option, Some, None, IfSome}
use Rattle.std.specs.Option.{option_map, option_and_then}
use Rattle.std.specs.Char.{is_ascii_digit}
use Rattle.std.specs.Fmt.{sign_text}
use Rattle.std.specs.Int.{IsInRange}
use Rattle.std.specs.List.{prefix_len, take_while}
use Rattle.std.specs.Str.Parse.{AllDigits}
use Rattle.std.proofs.Math.Seq.{drop-append_seam}
use Rattle.std.proofs.lemmas.Bool.{eqb-true}
use Rattle.std.proofs.lemmas.Int.{ints}
use Rattle.std.proofs.lemmas.Slice.Eq.{bytes_eq-Decides}
use Rattle.std.proofs.lemmas.Str.{chars-IsAscii, encodes-chars, encodes-IsAscii, IsAscii-append}
use Rattle.std.proofs.lemmas.Str.Parse.{digit_from_value}
use Rattle.doc_model.specs.Ranges.{IsLength}
use Rattle.style_model.specs.Lengths.{Measure, Inch, Centimeter, Millimeter, Point, Pica, measure_text, LengthText, IsLengthText, fraction_text, fraction_digits, text_of, size_of, signed, Says}
use Rattle.load_model.specs.Values.{by_table, is_digit, measure, fraction, behind_fraction, unsigned_length, any_length, has_few_digits, length_value}
use Rattle.page_style.proofs.Digits.{leading_digits, digits_of_front}
use Rattle.read_values.proofs.Words.{ascii_bytes}

-- measures
row_found : (ones : List Measure) (text : List ℕ) (found : Measure) → by_table (map (λ one. (measure_text one, one)) ones) text ≡ Some found → text ≡ measure_text found
row_found [] text found e = absurd (cc)
row_found (one ∷ ones) text found e = by_test (row_found ones text found) (bytes_eq (measure_text one) text) refl
  where
    shape : Bool → Option Measure
    shape is = option_map (λ (row : List ℕ × Measure). row.1) (cond is (Some (measure_text one, one)) (find (λ row. bytes_eq row.0 text) (map (λ one. (measure_text one, one)) ones)))

    by_test : (by_table (map (λ one. (measure_text one, one)) ones) text ≡ Some found → text ≡ measure_text found) → (is : Bool) → bytes_eq (measure_text one) text ≡ is → text ≡ measure_text found
    by_test more true is = let same : one ≡ found = cc (sym (ap shape is) ∙ e) in sym ((bytes_eq-Decides (measure_text one) text).0 is) ∙ ap measure_text same
    by_test more false is = more (sym (ap shape is) ∙ e)

measure_said : (text : List ℕ) (found : Measure) → measure text ≡ Some found → text ≡ measure_text found
measure_said text found e = row_found (Inch ∷ Centimeter ∷ Millimeter ∷ Point ∷ Pica ∷ []) text found e

measure_read : (one : Measure) → measure (measure_text one) ≡ Some one
measure_read Inch = refl
measure_read Centimeter = refl
measure_read Millimeter = refl
measure_read Point = refl
measure_read Pica = refl

-- the parts of a text
cut_back : (n : ℕ) (text : List ℕ) → take n text ++ drop (length (take n text)) text ≡ text
cut_back zero text = refl
cut_back (suc n) [] = refl
cut_back (suc n) (c ∷ cs) = ap (λ more. c ∷ more) (cut_back n cs)

record IsCut (rest : List ℕ) (part : Option (List ℕ)) (behind : List ℕ) : Type 0 where
  cut : rest ≡ fraction_text part ++ behind
  digits : AllDigits 10 (fraction_digits part)

behind_point : (digits cs : List ℕ) (c : ℕ) → drop (length digits + 1) (c ∷ cs) ≡ drop (length digits) cs
behind_point digits cs c = rw add-one refl

point_cut : (cs : List ℕ) → IsCut (0x2e ∷ cs) (fraction (0x2e ∷ cs)) (behind_fraction (0x2e ∷ cs))
point_cut cs = record {
  cut = ap (λ more. 0x2e ∷ more) (sym (ap (λ more. take_while is_digit cs ++ more) (behind_point (take_while is_digit cs) cs 0x2e) ∙ cut_back (prefix_len is_digit cs) cs));
  digits = leading_digits cs;
}

fraction_cut : (rest : List ℕ) → IsCut rest (fraction rest) (behind_fraction rest)
fraction_cut [] = record { cut = refl; digits = tt }
fraction_cut (c ∷ cs) = by_test (c == 0x2e) refl
  where
    by_test : (is : Bool) → (c == 0x2e) ≡ is → IsCut (c ∷ cs) (fraction (c ∷ cs)) (behind_fraction (c ∷ cs))
    by_test true is = subst (λ (d : ℕ). IsCut (d ∷ cs) (fraction (d ∷ cs)) (behind_fraction (d ∷ cs))) (sym (eqb-true _ _ is)) (point_cut cs)
    by_test false is = rw (is, behind_fraction) (record { cut = refl; digits = tt })

-- the parts together
shape : Bool → List ℕ → List ℕ → Option LengthText
shape below_zero whole rest = option_map (λ one. record { below_zero = below_zero; whole = whole; fraction = fraction rest; measure = one }) (measure (behind_fraction rest))

unsigned_shape : (below_zero : Bool) (text : List ℕ) → unsigned_length below_zero text ≡ shape below_zero (take_while is_digit text) (drop (length (take_while is_digit text)) text)
unfolding shape
unsigned_shape below_zero text = refl

-- a text that has the parts of a length, whatever digits it has
record IsSaid (text : List ℕ) (given : LengthText) : Type 0 where
  same : text ≡ text_of given
  before : AllDigits 10 given.whole
  behind : AllDigits 10 (fraction_digits given.fraction)

shape_said : (below_zero : Bool) (whole rest : List ℕ) (given : LengthText) → AllDigits 10 whole → shape below_zero whole rest ≡ Some given → IsSaid (sign_text below_zero ++ (whole ++ rest)) given
unfolding shape
shape_said below_zero whole rest given are e = by_measure (measure (behind_fraction rest)) refl e
  where
    by_measure : (found : Option Measure) → measure (behind_fraction rest) ≡ found → option_map (λ one. record { below_zero = below_zero; whole = whole; fraction = fraction rest; measure = one }) found ≡ Some given → IsSaid (sign_text below_zero ++ (whole ++ rest)) given
    by_measure None m e = absurd (cc)
    by_measure (Some one) m e =
        let parts = fraction_cut rest in
        let same : record { below_zero = below_zero; whole = whole; fraction = fraction rest; measure = one } ≡ given = cc in
        subst (λ (other : LengthText). IsSaid (sign_text below_zero ++ (whole ++ rest)) other) same (record {
          same = ap (λ more. sign_text below_zero ++ (whole ++ more)) (parts.cut ∙ ap (λ name. fraction_text (fraction rest) ++ name) (measure_said (behind_fraction rest) one m));
          before = are;
          behind = parts.digits;
        })

unsigned_said : (below_zero : Bool) (text : List ℕ) (given : LengthText) → unsigned_length below_zero text ≡ Some given → IsSaid (sign_text below_zero ++ text) given
unsigned_said below_zero text given e =
    let said = shape_said below_zero (take_while is_digit text) (drop (length (take_while is_digit text)) text) given (leading_digits text) (sym (unsigned_shape below_zero text) ∙ e) in
    subst (λ (other : List ℕ). IsSaid (sign_text below_zero ++ other) given) (cut_back (prefix_len is_digit text) text) said

any_plain : (text : List ℕ) → (get_or text 0 0 == 0x2d) ≡ false → any_length text ≡ unsigned_length false text
any_plain [] other = refl
any_plain (c ∷ cs) other = rw (other, any_length) refl

minus_said : (text : List ℕ) (given : LengthText) → (get_or text 0 0 == 0x2d) ≡ true → any_length text ≡ Some given → IsSaid text given
minus_said [] given is e = absurd (true≢false (sym is))
minus_said (c ∷ cs) given is e =
    let same : c ≡ 0x2d = eqb-true _ _ is in
    subst (λ (d : ℕ). IsSaid (d ∷ cs) given) (sym same) (unsigned_said true cs given (sym (ap (λ d. any_length (d ∷ cs)) same) ∙ e))

any_said : (text : List ℕ) (given : LengthText) → any_length text ≡ Some given → IsSaid text given
any_said text given e = by_test (get_or text 0 0 == 0x2d) refl
  where
    by_test : (is : Bool) → (get_or text 0 0 == 0x2d) ≡ is → IsSaid text given
    by_test true is = minus_said text given is e
    by_test false is = unsigned_said false text given (sym (any_plain text is) ∙ e)

-- a length that is said is read
digits_first : (whole rest : List ℕ) → AllDigits 10 whole → is_ascii_digit (get_or rest 0 0) ≡ false → take_while is_digit (whole ++ rest) ≡ whole
digits_first whole rest are none = (digits_of_front whole rest (whole ++ rest) (prefix_len is_ascii_digit (whole ++ rest)) are none refl refl).0

no_digit_first : (part : Option (List ℕ)) (one : Measure) → is_ascii_digit (get_or (fraction_text part ++ measure_text one) 0 0) ≡ false
no_digit_first (Some digits) one = refl
no_digit_first None Inch = refl
no_digit_first None Centimeter = refl
no_digit_first None Millimeter = refl
no_digit_first None Point = refl
no_digit_first None Pica = refl

rest_read : (below_zero : Bool) (whole : List ℕ) (part : Option (List ℕ)) (one : Measure) → AllDigits 10 (fraction_digits part)
    → shape below_zero whole (fraction_text part ++ measure_text one) ≡ Some (record { below_zero = below_zero; whole = whole; fraction = part; measure = one })
unfolding shape
rest_read below_zero whole None Inch are = refl
rest_read below_zero whole None Centimeter are = refl
rest_read below_zero whole None Millimeter are = refl
rest_read below_zero whole None Point are = refl
rest_read below_zero whole None Pica are = refl
rest_read below_zero whole (Some digits) one are =
    let first : take_while is_digit (digits ++ measure_text one) ≡ digits = digits_first digits (measure_text one) are (no_digit_first None one) in
    ap (λ part. option_map (λ one. record { below_zero = below_zero; whole = whole; fraction = Some part; measure = one }) (measure (drop (length part + 1) (0x2e ∷ (digits ++ measure_text one))))) first
    ∙ ap (λ name. option_map (λ one. record { below_zero = below_zero; whole = whole; fraction = Some digits; measure = one }) (measure name)) (behind_point digits (digits ++ measure_text one) 0x2e ∙ drop-append_seam digits (measure_text one))
    ∙ ap (option_map (λ one. record { below_zero = below_zero; whole = whole; fraction = Some digits; measure = one })) (measure_read one)

unsigned_read : (below_zero : Bool) (whole : List ℕ) (part : Option (List ℕ)) (one : Measure) → AllDigits 10 whole → AllDigits 10 (fraction_digits part)
    → unsigned_length below_zero (whole ++ (fraction_text part ++ measure_text one)) ≡ Some (record { below_zero = below_zero; whole = whole; fraction = part; measure = one })
unsigned_read below_zero whole part one before behind =
    let text : List ℕ = whole ++ (fraction_text part ++ measure_text one) in
    let first : take_while is_digit (whole ++ (fraction_text part ++ measure_text one)) ≡ whole = digits_first whole (fraction_text part ++ measure_text one) before (no_digit_first part one) in
    unsigned_shape below_zero (whole ++ (fraction_text part ++ measure_text one))
    ∙ ap (λ digits. shape below_zero digits (drop (length digits) (whole ++ (fraction_text part ++ measure_text one)))) first
    ∙ ap (shape below_zero whole) (drop-append_seam whole (fraction_text part ++ measure_text one))
    ∙ rest_read below_zero whole part one behind

no_minus_first : (whole : List ℕ) (part : Option (List ℕ)) (one : Measure) → AllDigits 10 whole → (get_or (whole ++ (fraction_text part ++ measure_text one)) 0 0 == 0x2d) ≡ false
no_minus_first [] (Some digits) one are = refl
no_minus_first [] None Inch are = refl
no_minus_first [] None Centimeter are = refl
no_minus_first [] None Millimeter are = refl
no_minus_first [] None Point are = refl
no_minus_first [] None Pica are = refl
no_minus_first (d ∷ ds) part one are = let range : IsInRange 48 57 d = digit_from_value d are.0 in grind (arith, range)

any_read : (below_zero : Bool) (whole : List ℕ) (part : Option (List ℕ)) (one : Measure) → AllDigits 10 whole → AllDigits 10 (fraction_digits part)
    → any_length (sign_text below_zero ++ (whole ++ (fraction_text part ++ measure_text one))) ≡ Some (record { below_zero = below_zero; whole = whole; fraction = part; measure = one })
any_read true whole part one before behind = unsigned_read true whole part one before behind
any_read false whole part one before behind = any_plain (whole ++ (fraction_text part ++ measure_text one)) (no_minus_first whole part one before) ∙ unsigned_read false whole part one before behind

-- ranges
length_most : (below_zero : Bool) (size : ℕ) → IsLength (signed below_zero size) → size ≤ 100000000
length_most false size h = omega (arith, ints, h)
length_most true zero h = omega arith
length_most true (suc size) h = omega (arith, ints, h)

length_within : (below_zero : Bool) (size : ℕ) → size ≤ 100000000 → IsLength (signed below_zero size)
length_within false size h = (omega (arith, ints), omega (arith, ints))
length_within true zero h = (omega (arith, ints), omega (arith, ints))
length_within true (suc size) h = (omega (arith, ints), omega (arith, ints))

three : (one two more : Bool) → (one && two && more) ≡ true → (one ≡ true) × (two ≡ true) × (more ≡ true)
three true true true e = (refl, refl, refl)
three false two more e = absurd (true≢false (sym e))
three true false more e = absurd (true≢false (sym e))
three true true false e = absurd (true≢false (sym e))

both_true : (one two : Bool) → (one && two) ≡ true → (one ≡ true) × (two ≡ true)
both_true true true e = (refl, refl)
both_true false two e = absurd (true≢false (sym e))
both_true true false e = absurd (true≢false (sym e))

both : (one two : Bool) → one ≡ true → two ≡ true → (one && two) ≡ true
both true true e f = refl
both false two e f = absurd (true≢false (sym e))
both true false e f = absurd (true≢false (sym f))

all_three : (one two more : Bool) → one ≡ true → two ≡ true → more ≡ true → (one && two && more) ≡ true
all_three true true true e f g = refl
all_three false two more e f g = absurd (true≢false (sym e))
all_three true false more e f g = absurd (true≢false (sym f))
all_three true true false e f g = absurd (true≢false (sym g))

few : (given : LengthText) → IsLengthText given → has_few_digits given ≡ true
few given is_one = all_three (nat_le (length given.whole) 9) (nat_le (length (fraction_digits given.fraction)) 9) (nat_le 1 (length given.whole + length (fraction_digits given.fraction)))
    (grind (arith, is_one.most_before)) (grind (arith, is_one.most_behind)) (grind (arith, is_one.one))

is_text : (given : LengthText) → AllDigits 10 given.whole → AllDigits 10 (fraction_digits given.fraction) → has_few_digits given ≡ true → IsLengthText given
is_text given before behind e =
    let are = three (nat_le (length given.whole) 9) (nat_le (length (fraction_digits given.fraction)) 9) (nat_le 1 (length given.whole + length (fraction_digits given.fraction))) e in
    record { digits_before = before; digits_behind = behind; most_before = grind (arith, are.0); most_behind = grind (arith, are.1); one = grind (arith, are.2) }

-- both directions
abbrev value_of_given : LengthText → Option ℤ
value_of_given given = if has_few_digits given && nat_le (size_of given) 100000000 then Some (signed given.below_zero (size_of given)) else None

is_small : (size : ℕ) → size ≤ 100000000 → nat_le size 100000000 ≡ true
is_small size h = grind (arith, h)

small : (size : ℕ) → nat_le size 100000000 ≡ true → size ≤ 100000000
small size h = grind (arith, h)

pub value_read : (text : List ℕ) (units : ℤ) → Says text units → IsLength units → length_value text ≡ Some units
value_read text units (given, is_one, same, value) within =
    let read : any_length text ≡ Some given = ap any_length (sym same) ∙ any_read given.below_zero given.whole given.fraction given.measure is_one.digits_before is_one.digits_behind in
    let most : size_of given ≤ 100000000 = length_most given.below_zero (size_of given) (subst (λ (z : ℤ). IsLength z) (sym value) within) in
    ap (option_and_then value_of_given) read
    ∙ ap (λ is. if is then Some (signed given.below_zero (size_of given)) else None) (both (has_few_digits given) (nat_le (size_of given) 100000000) (few given is_one) (is_small (size_of given) most))
    ∙ ap (λ z. Some z) value

given_said : (text : List ℕ) (given : LengthText) (units : ℤ) → IsSaid text given → value_of_given given ≡ Some units → Says text units × IsLength units
given_said text given units said e = by_test (has_few_digits given && nat_le (size_of given) 100000000) refl e
  where
    by_test : (is : Bool) → (has_few_digits given && nat_le (size_of given) 100000000) ≡ is → (if is then Some (signed given.below_zero (size_of given)) else None) ≡ Some units → Says text units × IsLength units
    by_test false test none = absurd (cc)
    by_test true test some =
        let two = both_true (has_few_digits given) (nat_le (size_of given) 100000000) test in
        let same : signed given.below_zero (size_of given) ≡ units = cc in
        ((given, is_text given said.before said.behind two.0, sym said.same, same), subst (λ (z : ℤ). IsLength z) same (length_within given.below_zero (size_of given) (small (size_of given) two.1)))

value_said : (text : List ℕ) (units : ℤ) → length_value text ≡ Some units → Says text units × IsLength units
value_said text units e = by_any (any_length text) refl e
  where
    by_any : (found : Option LengthText) → any_length text ≡ found → option_and_then value_of_given found ≡ Some units → Says text units × IsLength units
    by_any None is none = absurd (cc)
    by_any (Some given) is some = given_said text given units (any_said text given is) some

-- the text of a length is ASCII
digits_ascii : (digits : List ℕ) → AllDigits 10 digits → IsAscii digits
digits_ascii [] are place = omega arith
digits_ascii (d ∷ ds) are zero = let range : IsInRange 48 57 d = digit_from_value d are.0 in omega (arith, range)
digits_ascii (d ∷ ds) are (suc place) = digits_ascii ds are.1 place

sign_ascii : (below_zero : Bool) → IsAscii (sign_text below_zero)
sign_ascii true = ascii_bytes (codes "-") refl
sign_ascii false = ascii_bytes [] refl

fraction_ascii : (part : Option (List ℕ)) → AllDigits 10 (fraction_digits part) → IsAscii (fraction_text part)
fraction_ascii None are = ascii_bytes [] refl
fraction_ascii (Some digits) are = IsAscii-append (codes ".") digits (ascii_bytes (codes ".") refl) (digits_ascii digits are)

measure_ascii : (one : Measure) → IsAscii (measure_text one)
measure_ascii Inch = ascii_bytes (codes "in") refl
measure_ascii Centimeter = ascii_bytes (codes "cm") refl
measure_ascii Millimeter = ascii_bytes (codes "mm") refl
measure_ascii Point = ascii_bytes (codes "pt") refl
measure_ascii Pica = ascii_bytes (codes "pc") refl

said_ascii : (text : List ℕ) (units : ℤ) → Says text units → IsAscii text
said_ascii text units (given, is_one, same, value) =
    subst (λ (other : List ℕ). IsAscii other) same
    (IsAscii-append (sign_text given.below_zero) (given.whole ++ (fraction_text given.fraction ++ measure_text given.measure)) (sign_ascii given.below_zero)
    (IsAscii-append given.whole (fraction_text given.fraction ++ measure_text given.measure) (digits_ascii given.whole is_one.digits_before)
    (IsAscii-append (fraction_text given.fraction) (measure_text given.measure) (fraction_ascii given.fraction is_one.digits_behind) (measure_ascii given.measure))))

same_letters : (text : List ℕ) → IsUtf8 text → IsAscii (chars text) → chars text ≡ text
same_letters text utf8 ascii = sym (encodes-IsAscii (chars text) ascii) ∙ encodes-chars text utf8

-- a text that is read is that of a length within the range
within_range : (text : List ℕ) (units : ℤ) → Says text units → ((IsLength units → ⊥) → Some units ≡ None) → IsLength units
within_range text units (given, is_one, same, value) beyond = by_test (nat_le (size_of given) 100000000) refl
  where
    by_test : (is : Bool) → nat_le (size_of given) 100000000 ≡ is → IsLength units
    by_test true is = subst (λ (z : ℤ). IsLength z) value (length_within given.below_zero (size_of given) (small (size_of given) is))
    by_test false is = absurd (
        let none : Some units ≡ None = beyond (λ within. true≢false (sym (is_small (size_of given) (length_most given.below_zero (size_of given) (subst (λ (z : ℤ). IsLength z) (sym value) within))) ∙ is)) in
        cc
        )

pub length_same : (text : List ℕ) (said : Option ℤ) → IsUtf8 text → IfSome said (λ units. Says text units)
    → ((units : ℤ) → Says text units → IsLength units → said ≡ Some units)
    → ((units : ℤ) → Says text units → (IsLength units → ⊥) → said ≡ None)
    → said ≡ length_value (chars text)
length_same text None utf8 given read beyond = by_value (length_value (chars text)) refl
  where
    by_value : (value : Option ℤ) → length_value (chars text) ≡ value → None ≡ length_value (chars text)
    by_value None is = sym is
    by_value (Some units) is =
        let says = value_said (chars text) units is in
        let same : chars text ≡ text = same_letters text utf8 (said_ascii (chars text) units says.0) in
        let none : None ≡ Some units = read units (subst (λ (other : List ℕ). Says other units) same says.0) says.1 in
        absurd (cc)
length_same text (Some units) utf8 given read beyond =
    sym (ap length_value (chars-IsAscii text (said_ascii text units given)) ∙ value_read text units given (within_range text units given (λ out_of. beyond units given out_of)))
