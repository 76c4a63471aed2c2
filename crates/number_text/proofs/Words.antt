-- The word of a number by division: the letter of the remainder, in front of the word of the quotient.
use Rattle.std.proofs.Common.{◌≡◌, ℕ, zero, suc, ◌+◌, ◌-◌, ◌/◌, ◌%◌, ◌<◌, List, [], ◌∷◌, ◌++◌, reverse, ap, ap₂, ◌≤◌, ◌⊎◌, inl, inr, ◌∙◌, arith}
use Rattle.std.proofs.lemmas.List.{reverse-append}
use Rattle.std.proofs.lemmas.Bool.{cases_lt}
use Rattle.std.proofs.lemmas.Bool.Decides.{nat_tests}
use Rattle.field_model.specs.Numbers.{next_word, word_of}

next_letter : (first letter : ℕ) (before : List ℕ) → letter < 25 → next_word first ((first + letter) ∷ before) ≡ (first + (letter + 1)) ∷ before
next_letter first letter before h = grind (arith, nat_tests)

next_round : (first : ℕ) (before : List ℕ) → next_word first ((first + 25) ∷ before) ≡ first ∷ next_word first before
next_round first before = grind (arith, nat_tests)

-- the word behind that of a number n is that of n + 1
word_step : (first n : ℕ) → word_of first (suc n) ≡ (first + n % 26) ∷ word_of first (n / 26)
unfolding word_of
word_step first zero = let here : first ≡ first + 0 = omega arith in ap (λ (letter : ℕ). letter ∷ []) here
word_step first (suc n) = ap (next_word first) (word_step first n) ∙ by_cases (cases_lt (n % 26) 25) where
  by_cases : (n % 26 < 25) ⊎ (25 ≤ n % 26) → next_word first ((first + n % 26) ∷ word_of first (n / 26)) ≡ (first + suc n % 26) ∷ word_of first (suc n / 26)
  by_cases (inl below) =
      let letter : first + (n % 26 + 1) ≡ first + suc n % 26 = omega arith in
      let quotient : n / 26 ≡ suc n / 26 = omega arith in
      next_letter first (n % 26) (word_of first (n / 26)) below ∙ ap₂ (λ (c : ℕ) (cs : List ℕ). c ∷ cs) letter (ap (word_of first) quotient)
  by_cases (inr last) =
      let digit : first + n % 26 ≡ first + 25 = omega arith in
      let letter : first ≡ first + suc n % 26 = omega arith in
      let quotient : suc (n / 26) ≡ suc n / 26 = omega arith in
      ap (λ (c : ℕ). next_word first (c ∷ word_of first (n / 26))) digit
      ∙ next_round first (word_of first (n / 26))
      ∙ ap₂ (λ (c : ℕ) (cs : List ℕ). c ∷ cs) letter (ap (word_of first) quotient)

pub word_of-letter : (first number : ℕ) → 0 < number → reverse (word_of first number) ≡ reverse (word_of first ((number - 1) / 26)) ++ (first + (number - 1) % 26) ∷ []
word_of-letter first zero h = absurd (omega arith)
word_of-letter first (suc n) h =
    let less : suc n - 1 ≡ n = omega arith in
    rw less (ap (reverse {A = ℕ}) (word_step first n) ∙ reverse-append ((first + n % 26) ∷ []) (word_of first (n / 26)))
