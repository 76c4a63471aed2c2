-- The nodes so far and those of the rest are those of all.
use denote.Shadow.{shadow}
use denote.Text.{Utf8}
use Rattle.std.proofs.Common.{◌≡◌, ◌++◌, length, chars}
use Rattle.markup_tree.specs.Pieces.{lines_from, line_ends}
use Rattle.markup_nodes.specs.Nodes.{char_nodes}
use Rattle.markup_tree.proofs.reader.push_data.Given as goal

abbrev pub decreases-section : goal.decreases-section
decreases-section l = length l.rest

abbrev pub invariant-section : goal.invariant-section
invariant-section l =
    (l.nodes ++ char_nodes (lines_from l.returned (chars l.rest)) ≡ l.fn.nodes ++ char_nodes (line_ends (chars l.section)))
    × shadow (Utf8 l.rest)
