use Rattle.std.proofs.Common.{◌≡◌, take}
use Rattle.markup_nodes.specs.Nodes.{leading, nodes_of, turns_of}
use Rattle.load_model.specs.declared.element.Element.{out-Element}
use Rattle.head_content.specs.Walk.{AddsBy, given_by}
use Rattle.head_content.proofs.walk.+push_element.Given as goal

abbrev pub invariant-push_inside-loop-turn : goal.invariant-push_inside-loop-turn
invariant-push_inside-loop-turn l = record {
  turns : l.turn-items ≡ turns_of (out-Element l.element).nodes;
  said : AddsBy l.names l.fn.read l.read (given_by (nodes_of (leading (out-Element l.element).nodes) (take l.turn-index l.turn-items)));
}
