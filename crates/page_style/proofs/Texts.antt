-- What the parts of a text say together.
use Rattle.std.proofs.Common.{◌≡◌, ◌≢◌, ℕ, ℤ, ◌+◌, ◌*◌, ◌/◌, ◌^◌, ◌<◌, ◌≤◌, Bool, false, List, [], ◌∷◌, ◌++◌, length, get_or, refl, sym, ap, ◌∙◌, arith, subst, Option, Some, None, IfSome, MatchOption}
use Rattle.std.specs.Char.{is_ascii_digit, digit_value}
use Rattle.std.specs.Fmt.{sign_text}
use Rattle.std.specs.Str.Parse.{AllDigits, digits_value}
use Rattle.doc_model.specs.Ranges.{IsLength}
use Rattle.style_model.specs.Lengths.{Measure, Inch, Centimeter, Millimeter, Point, Pica, measure_text, units_in, LengthText, IsLengthText, fraction_text, fraction_digits, size_of, signed, Says}

-- the text of a length without its sign
abbrev pub unsigned_text : LengthText → List ℕ
unsigned_text given = given.whole ++ (fraction_text given.fraction ++ measure_text given.measure)

-- a text without a sign that is that of a length of this size
abbrev pub SaysSize : List ℕ → ℕ → Type 0
SaysSize text size = (given : LengthText) × IsLengthText given × (text ≡ unsigned_text given) × (size_of given ≡ size)

-- no digit begins a measure, or a point and digits before one
no_digit_first : (fraction : Option (List ℕ)) (measure : Measure) → is_ascii_digit (get_or (fraction_text fraction ++ measure_text measure) 0 0) ≡ false
no_digit_first (Some digits) measure = refl
no_digit_first None Inch = refl
no_digit_first None Centimeter = refl
no_digit_first None Millimeter = refl
no_digit_first None Point = refl
no_digit_first None Pica = refl

no_point_first : (measure : Measure) → get_or (measure_text measure) 0 0 ≢ 46
no_point_first Inch = λ e. absurd (omega (arith, e))
no_point_first Centimeter = λ e. absurd (omega (arith, e))
no_point_first Millimeter = λ e. absurd (omega (arith, e))
no_point_first Point = λ e. absurd (omega (arith, e))
no_point_first Pica = λ e. absurd (omega (arith, e))

no_minus_behind : (fraction : Option (List ℕ)) (measure : Measure) → get_or (fraction_text fraction ++ measure_text measure) 0 0 ≢ 45
no_minus_behind (Some digits) measure = λ e. absurd (omega (arith, e))
no_minus_behind None Inch = λ e. absurd (omega (arith, e))
no_minus_behind None Centimeter = λ e. absurd (omega (arith, e))
no_minus_behind None Millimeter = λ e. absurd (omega (arith, e))
no_minus_behind None Point = λ e. absurd (omega (arith, e))
no_minus_behind None Pica = λ e. absurd (omega (arith, e))

no_minus_first : (whole : List ℕ) (fraction : Option (List ℕ)) (measure : Measure) → AllDigits 10 whole
    → get_or (whole ++ (fraction_text fraction ++ measure_text measure)) 0 0 ≢ 45
no_minus_first [] fraction measure h = no_minus_behind fraction measure
no_minus_first (d ∷ ds) fraction measure h = λ e. let below : digit_value 45 < 10 = subst (λ (c : ℕ). digit_value c < 10) e h.0 in absurd (omega (arith, below))

pub said_by_parts : (text whole rest fraction name : List ℕ) (units size : ℕ) → text ≡ whole ++ rest → AllDigits 10 whole
    → (given : Option (List ℕ)) × (rest ≡ fraction_text given ++ name) × (fraction_digits given ≡ fraction) → AllDigits 10 fraction
    → length whole ≤ 9 → length fraction ≤ 9 → 1 ≤ length whole + length fraction
    → (measure : Measure) × (name ≡ measure_text measure) × (units ≡ units_in measure)
    → size ≡ digits_value 10 (whole ++ fraction) * units / 10 ^ length fraction → SaysSize text size
said_by_parts text whole rest fraction name units size cut whole_digits (given, behind, same) digits few_before few_behind one (measure, named, counted) e = (
  record { below_zero = false; whole = whole; fraction = given; measure = measure },
  record {
    digits_before = whole_digits;
    digits_behind = rw same digits;
    most_before = few_before;
    most_behind = rw same few_behind;
    one = rw same one;
  },
  cc,
  rw same (rw (sym counted) (sym e)),
)

pub read_by_parts : (text whole rest fraction name : List ℕ) (units size : ℕ)
    → ((digits more : List ℕ) → AllDigits 10 digits → is_ascii_digit (get_or more 0 0) ≡ false → text ≡ digits ++ more → (whole ≡ digits) × (rest ≡ more))
    → ((given : Option (List ℕ)) (more : List ℕ) → AllDigits 10 (fraction_digits given) → is_ascii_digit (get_or more 0 0) ≡ false
    → get_or more 0 0 ≢ 46 → rest ≡ fraction_text given ++ more → (fraction ≡ fraction_digits given) × (name ≡ more))
    → ((measure : Measure) → name ≡ measure_text measure → Some units ≡ Some (units_in measure))
    → size ≡ digits_value 10 (whole ++ fraction) * units / 10 ^ length fraction
    → (given : LengthText) → IsLengthText given → text ≡ unsigned_text given → Some size ≡ Some (size_of given)
read_by_parts text whole rest fraction name units size cut cut_behind counted e given is_one same =
    let first = cut given.whole (fraction_text given.fraction ++ measure_text given.measure) is_one.digits_before (no_digit_first given.fraction given.measure) same in
    let second = cut_behind given.fraction (measure_text given.measure) is_one.digits_behind (no_digit_first None given.measure) (no_point_first given.measure) first.1 in
    let third = counted given.measure second.1 in
    let units_same : units ≡ units_in given.measure = cc third in
    ap (λ n. Some n) (e ∙ rw (first.0, second.0, units_same) refl)

pub says_signed : (text rest : List ℕ) (below_zero : Bool) (size : ℕ) (said : Option ℤ) → text ≡ sign_text below_zero ++ rest → SaysSize rest size
    → MatchOption said (IsLength (signed below_zero size) → ⊥) (λ units. (units ≡ signed below_zero size) × IsLength (signed below_zero size))
    → IfSome said (λ units. Says text units)
says_signed text rest below_zero size None cut (given, is_one, same, value) within = tt
says_signed text rest below_zero size (Some units) cut (given, is_one, same, value) within = (
  record given { below_zero = below_zero },
  record {
    digits_before = is_one.digits_before;
    digits_behind = is_one.digits_behind;
    most_before = is_one.most_before;
    most_behind = is_one.most_behind;
    one = is_one.one;
  },
  ap (λ more. sign_text below_zero ++ more) (sym same) ∙ sym cut,
  ap (λ n. signed below_zero n) value ∙ sym within.0,
)

abbrev pub ReadsSign : List ℕ → List ℕ → Bool → Type 0
ReadsSign text rest below_zero = (other : Bool) (more : List ℕ) → get_or more 0 0 ≢ 45 → text ≡ sign_text other ++ more → (below_zero ≡ other) × (rest ≡ more)

abbrev pub ReadsSize : List ℕ → ℕ → Type 0
ReadsSize rest size = (given : LengthText) → IsLengthText given → rest ≡ unsigned_text given → Some size ≡ Some (size_of given)

value_is_that : (text rest : List ℕ) (below_zero : Bool) (size : ℕ) (units : ℤ) → ReadsSign text rest below_zero → ReadsSize rest size → Says text units → signed below_zero size ≡ units
value_is_that text rest below_zero size units sign reads (given, is_one, same, value) =
    let cut = sign given.below_zero (unsigned_text given) (no_minus_first given.whole given.fraction given.measure is_one.digits_before) (sym same) in
    let sized : size ≡ size_of given = cc (reads given is_one cut.1) in
    rw (cut.0, sized) value

pub read_signed : (text rest : List ℕ) (below_zero : Bool) (size : ℕ) (said : Option ℤ) → ReadsSign text rest below_zero → ReadsSize rest size
    → MatchOption said (IsLength (signed below_zero size) → ⊥) (λ units. (units ≡ signed below_zero size) × IsLength (signed below_zero size))
    → (units : ℤ) → Says text units → IsLength units → said ≡ Some units
read_signed text rest below_zero size None sign reads within units says is_length =
    absurd (within (rw (value_is_that text rest below_zero size units sign reads says) is_length))
read_signed text rest below_zero size (Some found) sign reads within units says is_length =
    ap (λ z. Some z) (within.0 ∙ value_is_that text rest below_zero size units sign reads says)

pub beyond_signed : (text rest : List ℕ) (below_zero : Bool) (size : ℕ) (said : Option ℤ) → ReadsSign text rest below_zero → ReadsSize rest size
    → MatchOption said (IsLength (signed below_zero size) → ⊥) (λ units. (units ≡ signed below_zero size) × IsLength (signed below_zero size))
    → (units : ℤ) → Says text units → (IsLength units → ⊥) → said ≡ None
beyond_signed text rest below_zero size None sign reads within units says is_none = refl
beyond_signed text rest below_zero size (Some found) sign reads within units says is_none =
    let P : ℤ → Type 0 = λ z. IsLength z in absurd (is_none (subst P (value_is_that text rest below_zero size units sign reads says) within.1))
