use Rattle.std.proofs.Common.{◌≡◌, map, take}
use Rattle.markup_nodes.specs.Nodes.{turns_of}
use Rattle.load_model.specs.declared.element.Element.{out-Element}
use Rattle.read_blocks.specs.NamedInside.{declared_among}
use Rattle.read_blocks.specs.Shown.{shown_declared}
use Rattle.read_blocks.proofs.declarations.declared_in.Given as goal

abbrev pub invariant-turns : goal.invariant-turns
invariant-turns l = record {
  all : l.turn-items ≡ turns_of (out-Element l.element).nodes;
  said : l.declared ≡ map shown_declared (declared_among l.which (map (λ turn. turn.elem) (take l.turn-index l.turn-items)));
}
