-- A decimal digit in roman letters, by cases.
use Rattle.std.proofs.Common.{◌≡◌, ◌≢◌, ℕ, ◌-◌, ◌/◌, ◌%◌, ◌<◌, ◌≤◌, List, [], ◌∷◌, ◌++◌, replicate, append_assoc, arith}
use Rattle.std.specs.Prelude.{slice_index}
use Rattle.std.proofs.lemmas.Bool.Decides.{nat_tests}
use Rattle.field_model.specs.Numbers.{roman, roman_digit}

pub nine : (one five ten digit : ℕ) → digit ≡ 9 → one ∷ ten ∷ [] ≡ roman_digit one five ten digit
nine one five ten digit e = grind (arith, nat_tests)

pub from_five : (one five ten digit : ℕ) → digit ≢ 9 → 5 ≤ digit → five ∷ replicate (digit - 5) one ≡ roman_digit one five ten digit
from_five one five ten digit n h = grind (arith, nat_tests)

pub four : (one five ten digit : ℕ) → digit ≡ 4 → one ∷ five ∷ [] ≡ roman_digit one five ten digit
four one five ten digit e = grind (arith, nat_tests)

pub up_to_three : (one five ten digit : ℕ) → digit < 4 → replicate digit one ≡ roman_digit one five ten digit
up_to_three one five ten digit h = grind (arith, nat_tests)

-- the digits of a number, put together from the front
pub roman_parts : (seven : List ℕ) (number : ℕ) → ((replicate (number / 1000) (slice_index seven 6)
    ++ roman_digit (slice_index seven 4) (slice_index seven 5) (slice_index seven 6) (number / 100 % 10))
    ++ roman_digit (slice_index seven 2) (slice_index seven 3) (slice_index seven 4) (number / 10 % 10))
    ++ roman_digit (slice_index seven 0) (slice_index seven 1) (slice_index seven 2) (number % 10) ≡ roman seven number
unfolding roman
roman_parts seven number = three (replicate (number / 1000) (slice_index seven 6)) (roman_digit (slice_index seven 4) (slice_index seven 5) (slice_index seven 6) (number / 100 % 10)) (roman_digit (slice_index seven 2) (slice_index seven 3) (slice_index seven 4) (number / 10 % 10)) (roman_digit (slice_index seven 0) (slice_index seven 1) (slice_index seven 2) (number % 10)) where
  three : (a b c d : List ℕ) → ((a ++ b) ++ c) ++ d ≡ a ++ (b ++ (c ++ d))
  three a b c d = simp append_assoc
