-- What reading the rest comes to, reading the whole does, with the characters so far in front.
use denote.Shadow.{shadow}
use denote.Text.{Utf8}
use Rattle.std.proofs.Common.{◌≡◌, ◌++◌, ◌≤◌, ℕ, List, length, chars}
use Rattle.markup_parts.specs.Constructs.{IsUpTo}
use Rattle.markup_parts.specs.Outcomes.{Outcome, Reads}
use Rattle.markup_parts.specs.Runs.{is_allowed}
use Rattle.markup_parts.proofs.ReadsLemmas.{mapped}
use Rattle.markup_parts.proofs.skipped.up_to.Given as goal

abbrev pub decreases-body : goal.decreases-body
decreases-body l = length l.rest

abbrev pub invariant-body : goal.invariant-body
invariant-body l =
    (front : List ℕ) × (chars l.text ≡ front ++ chars l.rest) × (length l.rest ≤ length l.text)
    × ((o : Outcome (List ℕ)) → Reads (IsUpTo (is_allowed l.allowed) (chars l.end)) (chars l.rest) o
    → Reads (IsUpTo (is_allowed l.allowed) (chars l.end)) (chars l.text) (mapped (λ (body : List ℕ). front ++ body) o))
    × shadow (Utf8 l.rest)
