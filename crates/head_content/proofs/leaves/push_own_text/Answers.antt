use Rattle.std.proofs.Common.{◌∙◌, ◌+◌, ◌++◌, ℕ, List, take, ap, sym, chars}
use Rattle.std.specs.List.{flat_map}
use Rattle.std.proofs.lemmas.List.{take_all}
use Rattle.markup_nodes.specs.Nodes.{leading}
use Rattle.markup_nodes.specs.declared.nodes.Turn.{Turn}
use Rattle.load_model.specs.declared.element.Element.{Element, out-Element}
use Rattle.head_content.specs.Reading.{followed, spaced_letters}
use Rattle.head_content.specs.Walk.{letters_in}
use Rattle.head_content.proofs.ReadingLemmas.{adds_is, adds_then, spaced_behind}
use Rattle.head_content.proofs.WalkLemmas.{letters_behind_turn, letters_turns}
use Rattle.head_content.proofs.leaves.push_own_text.Goals as goal

pub turns-preserved : goal.turns-preserved
turns-preserved c =
    let turns = c.turns-turn-items.result.now in
    let first : List ℕ = leading (out-Element c.args.element.now).nodes in
    let before : List ℕ = first ++ flat_map (λ (turn : Turn Element). turn.after) (take c.turns.turn-index turns) in
    let turn = c.turn-item.result in
    record {
      turns = c.turns.invariant.turns;
      said = adds_is c.args.read.now c.push_spaced-in-turns.new.self (followed (spaced_letters before) (spaced_letters (chars c.get.result.now))) (spaced_letters (first ++ flat_map (λ (one : Turn Element). one.after) (take (c.turns.turn-index + 1) turns)))
          (ap (λ (text : List ℕ). followed (spaced_letters before) (spaced_letters text)) c.get.ensures ∙ spaced_behind before turn.after ∙ ap spaced_letters (letters_behind_turn first turns c.turns.turn-index turn c.turns-test.true c.turn-item.is))
          (adds_then c.args.read.now c.turns.read c.push_spaced-in-turns.new.self (spaced_letters before) (spaced_letters (chars c.get.result.now)) c.turns.invariant.said c.in_ok-push_spaced-2.ensures);
    }

pub returns : goal.returns
returns c =
    let nodes = (out-Element c.args.element.now).nodes in
    let turns = c.turns-turn-items.result.now in
    adds_is c.args.read.now c.turns.read (spaced_letters (leading nodes ++ flat_map (λ (turn : Turn Element). turn.after) (take c.turns.turn-index turns))) (spaced_letters (letters_in nodes))
    (ap (λ (some : List (Turn Element)). spaced_letters (leading nodes ++ flat_map (λ (turn : Turn Element). turn.after) some)) (take_all c.turns.turn-index turns c.turns-test.false ∙ c.turns.invariant.turns)
    ∙ ap spaced_letters (sym (letters_turns nodes)))
    c.turns.invariant.said
