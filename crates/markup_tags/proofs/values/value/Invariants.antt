-- What reading the rest comes to, reading the whole does, with the value so far in front.
use denote.Shadow.{shadow}
use denote.Text.{Utf8}
use Rattle.std.proofs.Common.{◌++◌, ◌≤◌, ℕ, List, length, chars}
use Rattle.std.specs.String.{string_bytes}
use Rattle.markup_tags.specs.Tags.{IsValue}
use Rattle.markup_parts.specs.Outcomes.{Outcome, Reads}
use Rattle.markup_parts.proofs.ReadsLemmas.{mapped}
use Rattle.markup_tags.proofs.values.value.Given as goal

abbrev pub decreases-characters : goal.decreases-characters
decreases-characters l = length l.rest

abbrev pub invariant-characters : goal.invariant-characters
invariant-characters l =
    (length l.rest ≤ length l.text)
    × ((o : Outcome (List ℕ)) → Reads (IsValue l.quote) (chars l.rest) o
    → Reads (IsValue l.quote) (chars l.text) (mapped (λ (value : List ℕ). chars (string_bytes l.value) ++ value) o))
    × shadow (Utf8 l.rest)
