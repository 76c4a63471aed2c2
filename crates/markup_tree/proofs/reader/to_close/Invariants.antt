-- Constructs lead to the rest, with these open elements.
use denote.Shadow.{shadow}
use denote.Text.{Utf8}
use Rattle.std.proofs.Common.{◌≤◌, ◌+◌, length, chars, vec_len}
use Rattle.markup_tree.specs.Stacks.{spot_in}
use Rattle.markup_tree.specs.Documents.{Reaches}
use Rattle.markup_tree.proofs.reader.to_close.Given as goal

abbrev pub decreases-content : goal.decreases-content
decreases-content l = length l.rest

abbrev pub invariant-content : goal.invariant-content
invariant-content l =
    (length l.rest ≤ length l.whole) × (vec_len l.below + 1 ≤ 200)
    × Reaches (chars l.whole) (spot_in l.below.items l.top (chars l.rest))
    × shadow (Utf8 l.rest)
