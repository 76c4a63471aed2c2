use Rattle.std.proofs.Common.{◌++◌, ◌∙◌, ℕ, List, chars, string_bytes, ap, sym, append-nil}
use Rattle.std.proofs.lemmas.List.{take_all}
use Rattle.markup_nodes.specs.Nodes.{leading}
use Rattle.markup_nodes.specs.declared.nodes.Turn.{Turn}
use Rattle.markup_nodes.proofs.WordLemmas.{none_chars}
use Rattle.load_model.specs.declared.element.Element.{Element, out-Element}
use Rattle.load_model.specs.Content.{spaced}
use Rattle.element_texts.proofs.LetterLemmas.{behind, letters_by_runs}
use Rattle.element_texts.proofs.texts.own_text.Goals as goal

pub loop-turn-init : goal.loop-turn-init
loop-turn-init c = record {
  turns = c.turns-turn-items.ensures;
  text = c.in_ok-push_spaced.ensures ∙ ap (λ (front : List ℕ). front ++ spaced (chars c.first.result.now)) (none_chars (string_bytes c.new-text.result) c.new-text.ensures.bytes)
      ∙ ap spaced (c.first.ensures ∙ sym (append-nil (leading (out-Element c.args.element.now).nodes)));
}

pub returns : goal.returns
returns c =
    let nodes = (out-Element c.args.element.now).nodes in
    c.from_list.ensures ∙ c.loop-turn.invariant.text
    ∙ ap spaced (ap (λ (some : List (Turn Element)). leading nodes ++ behind some) (take_all c.loop-turn.turn-index c.turns-turn-items.result.now c.loop-turn-test.false ∙ c.loop-turn.invariant.turns) ∙ sym (letters_by_runs nodes))
