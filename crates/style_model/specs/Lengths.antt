-- Lengths as texts. A length is counted in units, of which an inch has 914400.
use Rattle.std.specs.Prelude.{◌≡◌, ℕ, ◌+◌, ◌*◌, ◌/◌, ◌%◌, ◌^◌, ◌≤◌, ℤ, pos, negsuc, neg_ℤ, Bool, true, false, if◌then◌else◌, List, [], ◌∷◌, ◌++◌, length, codes, Option, Some, None, unsigned_abs}
use Rattle.std.specs.Fmt.{decimal, sign_text}
use Rattle.std.specs.Str.Parse.{AllDigits, digits_value}

-- what a length is measured in
pub data Measure : Type 0 where
  Inch : Measure
  Centimeter : Measure
  Millimeter : Measure
  Point : Measure
  Pica : Measure

-- how a measure is written
abbrev pub measure_text : Measure → List ℕ
measure_text Inch = codes "in"
measure_text Centimeter = codes "cm"
measure_text Millimeter = codes "mm"
measure_text Point = codes "pt"
measure_text Pica = codes "pc"

-- how many units one of a measure has
abbrev pub units_in : Measure → ℕ
units_in Inch = 914400
units_in Centimeter = 360000
units_in Millimeter = 36000
units_in Point = 12700
units_in Pica = 152400

-- what the text of a length has: perhaps a minus, digits, perhaps a point with digits behind it, and a measure
pub record LengthText : Type 0 where
  pub below_zero : Bool
  pub whole : List ℕ
  pub fraction : Option (List ℕ)
  pub measure : Measure

-- a point and the digits behind it, where there is a point
abbrev pub fraction_text : Option (List ℕ) → List ℕ
fraction_text None = []
fraction_text (Some digits) = codes "." ++ digits

-- the digits behind the point, none where there is no point
abbrev pub fraction_digits : Option (List ℕ) → List ℕ
fraction_digits None = []
fraction_digits (Some digits) = digits

-- how it is written
abbrev pub text_of : LengthText → List ℕ
text_of given = sign_text given.below_zero ++ (given.whole ++ (fraction_text given.fraction ++ measure_text given.measure))

-- at most nine digits stand before the point and nine behind it, and at least one in all
pub record IsLengthText (given : LengthText) : Type 0 where
  pub digits_before : AllDigits 10 given.whole
  pub digits_behind : AllDigits 10 (fraction_digits given.fraction)
  pub most_before : length given.whole ≤ 9
  pub most_behind : length (fraction_digits given.fraction) ≤ 9
  pub one : 1 ≤ length given.whole + length (fraction_digits given.fraction)

-- the size that it says, in whole units: the number of all its digits, times the units of its measure, divided by ten for each digit behind the point
abbrev pub size_of : LengthText → ℕ
size_of given = digits_value 10 (given.whole ++ fraction_digits given.fraction) * units_in given.measure / 10 ^ length (fraction_digits given.fraction)

-- a size with its sign; a length below zero is cut towards zero as one above is
abbrev pub signed : Bool → ℕ → ℤ
signed below_zero size = if below_zero then neg_ℤ (pos size) else pos size

-- the text is that of a length, and says so many units
abbrev pub Says : List ℕ → ℤ → Type 0
Says text units = (given : LengthText) × IsLengthText given × (text_of given ≡ text) × (signed given.below_zero (size_of given) ≡ units)

-- whether a length is below zero
abbrev pub is_below_zero : ℤ → Bool
is_below_zero (pos units) = false
is_below_zero (negsuc units) = true

-- the least number of millionths of an inch whose size is at least so many units
abbrev pub millionths : ℕ → ℕ
millionths units = (units * 1000000 + 914399) / 914400

-- the digit of a number at the place that counts so much
abbrev pub digit_at : ℕ → ℕ → ℕ
digit_at number place = 48 + number / place % 10

-- the last six digits of a number
abbrev pub six_digits : ℕ → List ℕ
six_digits number = digit_at number 100000 ∷ digit_at number 10000 ∷ digit_at number 1000 ∷ digit_at number 100 ∷ digit_at number 10 ∷ digit_at number 1 ∷ []

-- the one spelling in which a length is written: in inches, with six digits behind the point
abbrev pub length_spelling : ℤ → List ℕ
length_spelling units = sign_text (is_below_zero units) ++ (decimal (millionths (unsigned_abs units) / 1000000) ++ (codes "." ++ six_digits (millionths (unsigned_abs units)) ++ codes "in"))
