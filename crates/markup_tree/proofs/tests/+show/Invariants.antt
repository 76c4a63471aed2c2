-- The turns are those of the element.
use Rattle.std.proofs.Common.{◌≡◌}
use Rattle.markup_nodes.specs.Nodes.{turns_of}
use Rattle.markup_nodes.specs.declared.tree.Elem.{out-Elem}
use Rattle.markup_tree.proofs.tests.+show.Given as goal

abbrev pub decreases-show : goal.decreases-show
decreases-show l = goal.size-show l

abbrev pub invariant-loop-attr : goal.invariant-loop-attr
invariant-loop-attr l = Unit {0}

abbrev pub invariant-loop-turn : goal.invariant-loop-turn
invariant-loop-turn l = l.turn-items ≡ turns_of (out-Elem l.elem).nodes
