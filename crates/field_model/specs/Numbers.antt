-- How a number is shown in each format ('style:num-format').
use Rattle.std.specs.Prelude.{ℕ, zero, suc, ◌+◌, ◌-◌, ◌/◌, ◌%◌, ◌==◌, nat_le, ◌&&◌, if◌then◌else◌, List, [], ◌∷◌, ◌++◌, reverse, replicate, slice_index, codes, decimal}
use Rattle.doc_model.specs.declared.field.Format.{Format}
use Rattle.doc_model.specs.declared.field.Format.TheVariants.{Digits, LowerLetter, UpperLetter, LowerRoman, UpperRoman, Empty}

-- the word that follows a word, both written with the last letter in front, where the letters are 26 from the first one on: b follows a, aa follows z, ba follows az
abbrev pub next_word : ℕ → List ℕ → List ℕ
next_word first [] = first ∷ []
next_word first (letter ∷ before) = if letter == first + 25 then first ∷ next_word first before else (letter + 1) ∷ before

-- the word of a number: the words follow one another from the empty one on, which is that of 0
unfoldable pub word_of : ℕ → ℕ → List ℕ
word_of first zero = []
word_of first (suc number) = next_word first (word_of first number)

-- a number in letters, where 0 is a digit
abbrev pub letters : ℕ → ℕ → List ℕ
letters first number = if number == 0 then codes "0" else reverse (word_of first number)

-- a decimal digit by the roman letters for one, five and ten at its place: up to three ones, four as one before five, then five with up to three ones, and nine as one before ten
abbrev pub roman_digit : ℕ → ℕ → ℕ → ℕ → List ℕ
roman_digit one five ten digit = if digit == 9 then one ∷ ten ∷ []
    else (if nat_le 5 digit then five ∷ replicate (digit - 5) one
    else (if digit == 4 then one ∷ five ∷ [] else replicate digit one))

-- a number from 1 to 3999 by the seven roman letters, those for 1, 5, 10, 50, 100, 500 and 1000: its digits one after another
unfoldable pub roman : List ℕ → ℕ → List ℕ
roman seven number = replicate (number / 1000) (letter 6)
    ++ (roman_digit (letter 4) (letter 5) (letter 6) (number / 100 % 10)
    ++ (roman_digit (letter 2) (letter 3) (letter 4) (number / 10 % 10)
    ++ roman_digit (letter 0) (letter 1) (letter 2) (number % 10))) where
      letter : ℕ → ℕ
      letter place = slice_index seven place

-- a number in roman letters, or in digits where it is 0 or above 3999
abbrev pub roman_or_digits : List ℕ → ℕ → List ℕ
roman_or_digits seven number = if nat_le 1 number && nat_le number 3999 then roman seven number else decimal number

-- a number in a format. The empty one shows nothing, of 0 too
abbrev pub shown_number : Format → ℕ → List ℕ
shown_number Digits number = decimal number
shown_number LowerLetter number = letters 97 number
shown_number UpperLetter number = letters 65 number
shown_number LowerRoman number = roman_or_digits (codes "ivxlcdm") number
shown_number UpperRoman number = roman_or_digits (codes "IVXLCDM") number
shown_number Empty number = []
