-- Constructs that say nothing lead to the rest.
use denote.Shadow.{shadow}
use denote.Text.{Utf8}
use Rattle.std.proofs.Common.{◌≤◌, length, chars}
use Rattle.markup_tree.specs.Stacks.{spot_after}
use Rattle.markup_tree.specs.Documents.{Reaches}
use Rattle.markup_tree.proofs.reader.to_end.Given as goal

abbrev pub decreases-epilog : goal.decreases-epilog
decreases-epilog l = length l.rest

abbrev pub invariant-epilog : goal.invariant-epilog
invariant-epilog l =
    (length l.rest ≤ length l.whole) × Reaches (chars l.whole) (spot_after l.root (chars l.rest))
    × shadow (Utf8 l.rest)
