-- The text begins with what was wanted so far.
use denote.Shadow.{shadow}
use denote.Text.{Utf8}
use Rattle.std.proofs.Common.{◌≡◌, ◌++◌, ℕ, List, length, chars}
use Rattle.markup_parts.proofs.NumberLemmas.{IsSpent}
use Rattle.markup_parts.proofs.text.expect.Given as goal

abbrev pub decreases-wanted : goal.decreases-wanted
decreases-wanted l = length l.left

abbrev pub invariant-wanted : goal.invariant-wanted
invariant-wanted l =
    (front : List ℕ) × (chars l.text ≡ front ++ chars l.rest) × (chars l.wanted ≡ front ++ chars l.left) × IsSpent front (length l.rest) (length l.text)
    × shadow (Utf8 l.rest) × shadow (Utf8 l.left)
