-- What was passed is of the class.
use denote.Shadow.{shadow}
use denote.Text.{Utf8}
use Rattle.std.proofs.Common.{◌≡◌, ◌++◌, ◌≤◌, ℕ, List, length, chars, true}
use Rattle.std.specs.List.{AllByRecursion as Each}
use Rattle.markup_parts.specs.Runs.{passes}
use Rattle.markup_parts.proofs.text.run.Given as goal

abbrev pub decreases-run : goal.decreases-run
decreases-run l = length l.rest

abbrev pub invariant-run : goal.invariant-run
invariant-run l =
    (front : List ℕ) × (chars l.text ≡ front ++ chars l.rest) × Each (λ c. passes l.class c ≡ true) front × (length l.rest ≤ length l.text)
    × shadow (Utf8 l.rest)
