-- The value is the number of the digits so far, or stays at the least that is too large.
use denote.Shadow.{shadow}
use denote.Text.{Utf8}
use Rattle.std.proofs.Common.{◌≡◌, ◌++◌, ℕ, List, length, chars, min, true}
use Rattle.std.specs.List.{AllByRecursion as Each}
use Rattle.markup_parts.specs.Chars.{is_digit_of, number_of}
use Rattle.markup_parts.proofs.NumberLemmas.{IsSpent}
use Rattle.markup_parts.proofs.references.number.Given as goal

abbrev pub decreases-digits : goal.decreases-digits
decreases-digits l = length l.rest

abbrev pub invariant-digits : goal.invariant-digits
invariant-digits l =
    (front : List ℕ) × (chars l.text ≡ front ++ chars l.rest) × Each (λ c. is_digit_of l.base c ≡ true) front
    × (l.value ≡ min (number_of l.base front) 0x110000) × IsSpent front (length l.rest) (length l.text)
    × shadow (Utf8 l.rest)
