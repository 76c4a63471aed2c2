-- What reading the rest comes to, reading the whole does, with the attributes so far in front.
use denote.Shadow.{shadow}
use denote.Text.{Utf8}
use Rattle.std.proofs.Common.{◌++◌, ◌≤◌, List, length, chars, Bool}
use Rattle.markup_nodes.specs.declared.words.Attr.{Attr}
use Rattle.markup_tags.specs.Tags.{IsTagRest}
use Rattle.markup_parts.specs.Outcomes.{Outcome, Reads}
use Rattle.markup_parts.proofs.ReadsLemmas.{mapped}
use Rattle.markup_tags.proofs.TagLemmas.{pair}
use Rattle.markup_tags.proofs.tags.tag_rest.Given as goal

abbrev pub decreases-attributes : goal.decreases-attributes
decreases-attributes l = length l.rest

abbrev pub invariant-attributes : goal.invariant-attributes
invariant-attributes l =
    (length l.rest ≤ length l.text)
    × ((o : Outcome (List Attr × Bool)) → Reads IsTagRest (chars l.rest) o
    → Reads IsTagRest (chars l.text) (mapped (λ (rest : List Attr × Bool). pair (l.attrs.items ++ rest.0) rest.1) o))
    × shadow (Utf8 l.rest)
