use Rattle.std.proofs.Common.{◌≡◌, take, map}
use Rattle.markup_nodes.specs.Nodes.{leading, turns_of}
use Rattle.load_model.specs.declared.element.Element.{out-Element}
use Rattle.load_model.specs.Blocks as blocks
use Rattle.load_model.specs.Blocks.{joined_blocks}
use Rattle.content_read.specs.Adds.{Adds}
use Rattle.content_read.specs.Known.{IsKnown}
use Rattle.content_read.proofs.TurnLemmas.{turns_content}
use Rattle.text_read.specs.Walk.{EnlistsHere, EntersHere, blocks_at, entry_at, kept_content}
use Rattle.text_read.proofs.NoteLemmas.{NoneOf}
use Rattle.text_read.proofs.walk.+push_block.Given as goal

abbrev pub invariant-push_inside-loop-turn : goal.invariant-push_inside-loop-turn
invariant-push_inside-loop-turn l = record {
  turns : l.turn-items ≡ turns_of (out-Element l.element).nodes;
  said : EnlistsHere l.known l.lists l.fn.into l.into l.first (λ model at. joined_blocks (map (λ turn. blocks_at turn.elem model at) (take l.turn-index l.turn-items)));
}

abbrev pub invariant-push_entries-loop-turn : goal.invariant-push_entries-loop-turn
invariant-push_entries-loop-turn l = record {
  turns : l.turn-items ≡ turns_of (out-Element l.element).nodes;
  said : EntersHere l.known l.lists l.fn.into l.into (λ model at. joined_blocks (map (λ turn. entry_at turn.elem model at) (take l.turn-index l.turn-items)));
}

abbrev pub invariant-push_nodes-loop-turn : goal.invariant-push_nodes-loop-turn
invariant-push_nodes-loop-turn l = record {
  turns : l.turn-items ≡ turns_of (out-Element l.element).nodes;
  said : (model : blocks.Known) → IsKnown l.known model
      → Adds l.fn.items l.items l.left (kept_content l.in_note (turns_content model (record { spans = l.spans; in_note = l.in_note }) (leading (out-Element l.element).nodes) (take l.turn-index l.turn-items)));
}

abbrev pub invariant-read_body-loop-turn : goal.invariant-read_body-loop-turn
invariant-read_body-loop-turn l = record {
  turns : l.turn-items ≡ turns_of (out-Element l.element).nodes;
  none : NoneOf (take l.turn-index l.turn-items);
  same : l.body ≡ l.initial.body;
}
