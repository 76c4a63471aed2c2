-- Constructs that say nothing lead to the rest.
use denote.Shadow.{shadow}
use denote.Text.{Utf8}
use Rattle.std.proofs.Common.{◌≤◌, [], length, chars}
use Rattle.markup_tree.specs.Pieces.{IsInProlog}
use Rattle.markup_tree.specs.Documents.{Reaches}
use Rattle.markup_tree.proofs.reader.to_root.Given as goal

abbrev pub decreases-prolog : goal.decreases-prolog
decreases-prolog l = length l.rest

abbrev pub invariant-prolog : goal.invariant-prolog
invariant-prolog l =
    IsInProlog l.part × (length l.rest ≤ length l.whole)
    × Reaches (chars l.whole) (record { part = l.part; rest = chars l.rest; open_names = []; events = [] })
    × shadow (Utf8 l.rest)
