use Rattle.std.proofs.Common.{◌≡◌, ◌++◌, string_bytes, chars, take}
use Rattle.markup_nodes.specs.Nodes.{leading, turns_of}
use Rattle.load_model.specs.declared.element.Element.{out-Element}
use Rattle.load_model.specs.Content.{spaced}
use Rattle.element_texts.proofs.LetterLemmas.{behind}
use Rattle.element_texts.proofs.texts.own_text.Given as goal

abbrev pub invariant-loop-turn : goal.invariant-loop-turn
invariant-loop-turn l = record {
  turns : l.turn-items ≡ turns_of (out-Element l.element).nodes;
  text : chars (string_bytes l.text) ≡ spaced (leading (out-Element l.element).nodes ++ behind (take l.turn-index l.turn-items));
}
