use Rattle.std.proofs.Common.{◌≡◌, take}
use Rattle.std.specs.List.{flat_map}
use Rattle.markup_nodes.specs.Nodes.{turns_of}
use Rattle.load_model.specs.declared.names.Tag.TheVariants as tag
use Rattle.load_model.specs.declared.element.Element.{out-Element}
use Rattle.met_read.specs.Walk.{HasMoreAt, given_in}
use Rattle.met_read.proofs.WalkLemmas.{NoneOf}
use Rattle.met_read.proofs.walk.+push_element.Given as goal

abbrev pub invariant-push_inside-loop-turn : goal.invariant-push_inside-loop-turn
invariant-push_inside-loop-turn l = record {
  turns : l.turn-items ≡ turns_of (out-Element l.element).nodes;
  said : HasMoreAt l.here l.fn.met.items l.met.items (λ at. flat_map (λ turn. given_in l.part turn.elem at) (take l.turn-index l.turn-items));
}

abbrev pub invariant-push_first_body-loop-turn : goal.invariant-push_first_body-loop-turn
invariant-push_first_body-loop-turn l = record {
  turns : l.turn-items ≡ turns_of (out-Element l.element).nodes;
  none : NoneOf tag.NoteBody (take l.turn-index l.turn-items);
  same : l.met ≡ l.fn.met;
}
