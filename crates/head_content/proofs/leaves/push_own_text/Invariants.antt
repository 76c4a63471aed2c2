use Rattle.std.proofs.Common.{◌≡◌, ◌++◌, take}
use Rattle.std.specs.List.{flat_map}
use Rattle.markup_nodes.specs.Nodes.{leading, turns_of}
use Rattle.load_model.specs.declared.element.Element.{out-Element}
use Rattle.head_content.specs.Reading.{Adds, spaced_letters}
use Rattle.head_content.proofs.leaves.push_own_text.Given as goal

abbrev pub invariant-turns : goal.invariant-turns
invariant-turns l = record {
  turns : l.turn-items ≡ turns_of (out-Element l.element).nodes;
  said : Adds l.fn.read l.read (spaced_letters (leading (out-Element l.element).nodes ++ flat_map (λ turn. turn.after) (take l.turn-index l.turn-items)));
}
