-- The digits of a number, read one after another.
use Rattle.std.proofs.Common.{◌≡◌, ◌≢◌, ℕ, ◌+◌, ◌-◌, ◌*◌, ◌≤◌, ◌<◌, List, [], ◌∷◌, ◌++◌, get_or, drop, ap, sym, ◌∙◌, arith, rules}
use Rattle.std.specs.Prelude.{decimal}
use Rattle.std.specs.Int.{IsInRange}
use Rattle.std.specs.Str.Parse.{AllDigits}
use Rattle.std.proofs.lemmas.Fmt.{digits_decimal, digits_value-decimal}
use Rattle.std.proofs.lemmas.Str.Parse.{IsNumeralModel, numerals_by_fold, tells_digits, digit_from_value}

-- the number that digits complete behind a number
abbrev pub completed : ℕ → List ℕ → ℕ
completed n [] = n
completed n (d ∷ ds) = completed (10 * n + (d - 48)) ds

own : IsNumeralModel (AllDigits 10) (completed 0)
own = numerals_by_fold (AllDigits 10) tells_digits completed (search rules)

-- digits that complete the number stand in front of a quotation mark
pub record Completes (count number : ℕ) (rest more : List ℕ) : Type 0 where
  pub digits : List ℕ
  pub are : AllDigits 10 digits
  pub value : completed number digits ≡ count
  pub spelled : rest ≡ digits ++ 0x22 ∷ more

pub completes_all : (count : ℕ) (rest more : List ℕ) → count ≤ 32768 → rest ≡ decimal count ++ 0x22 ∷ more → Completes count 0 rest more
completes_all count rest more most e = record {
  digits = decimal count;
  are = digits_decimal own count (omega arith);
  value = digits_value-decimal own count (omega arith);
  spelled = e;
}

le-completed : (n : ℕ) (ds : List ℕ) → n ≤ completed n ds
le-completed n [] = omega arith
le-completed n (d ∷ ds) = omega (arith, le-completed (10 * n + (d - 48)) ds)

-- the number is never too large
pub le-count : {count number : ℕ} {rest more : List ℕ} → Completes count number rest more → number ≤ count
le-count {number = number} left = omega (arith, le-completed number left.digits, left.value)

digit_on : (count number digit : ℕ) (rest more digits : List ℕ) → digit < 10 → AllDigits 10 digits → completed number digits ≡ count → (48 + digit) ∷ rest ≡ digits ++ 0x22 ∷ more
    → Completes count (10 * number + digit) rest more
digit_on count number digit rest more [] small are value e = absurd (omega (arith, ap (λ (xs : List ℕ). get_or xs 0 0) e))
digit_on count number digit rest more (d ∷ ds) small are value e =
    let front : 48 + digit ≡ d = ap (λ (xs : List ℕ). get_or xs 0 0) e in
    record {
      digits = ds;
      are = are.1;
      value = ap (λ (n : ℕ). completed n ds) (omega (arith, front)) ∙ value;
      spelled = ap (λ (xs : List ℕ). drop 1 xs) e;
    }

-- one digit on
pub completes_digit : {count number : ℕ} {bytes more : List ℕ} (digit : ℕ) (rest : List ℕ) → digit < 10 → bytes ≡ (48 + digit) ∷ rest → Completes count number bytes more
    → Completes count (10 * number + digit) rest more
completes_digit {count} {number} {bytes} {more} digit rest small e left = digit_on count number digit rest more left.digits small left.are left.value (sym e ∙ left.spelled)

end_by : (count number : ℕ) (rest more digits : List ℕ) → ((digit : ℕ) (after : List ℕ) → digit < 10 → rest ≢ (48 + digit) ∷ after) → AllDigits 10 digits → completed number digits ≡ count → rest ≡ digits ++ 0x22 ∷ more
    → (number ≡ count) × (rest ≡ 0x22 ∷ more)
end_by count number rest more [] none are value e = (value, e)
end_by count number rest more (d ∷ ds) none are value e =
    let digit : IsInRange 48 57 d = digit_from_value d are.0 in
    absurd (none (d - 48) (ds ++ 0x22 ∷ more) (omega (arith, digit)) (e ∙ ap (λ (x : ℕ). x ∷ (ds ++ 0x22 ∷ more)) (omega (arith, digit))))

-- where no digit follows, the number is complete
pub completes_end : {count number : ℕ} {rest more : List ℕ} → ((digit : ℕ) (after : List ℕ) → digit < 10 → rest ≢ (48 + digit) ∷ after) → Completes count number rest more → (number ≡ count) × (rest ≡ 0x22 ∷ more)
completes_end {count} {number} {rest} {more} none left = end_by count number rest more left.digits none left.are left.value left.spelled
