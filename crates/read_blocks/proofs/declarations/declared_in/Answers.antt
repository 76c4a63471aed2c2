use Rattle.std.proofs.Common.{◌∙◌, ◌++◌, ◌∷◌, [], List, ap, map, sym, take}
use Rattle.std.proofs.lemmas.List.{take_all}
use Rattle.markup_nodes.specs.declared.nodes.Turn.{Turn}
use Rattle.load_model.specs.declared.element.Element.{Element, out-Element}
use Rattle.block_parts.proofs.NoteLemmas.{elems_turns}
use Rattle.read_blocks.specs.NamedInside.{declared_among}
use Rattle.read_blocks.specs.Shown.{shown_declared}
use Rattle.read_blocks.specs.declared.read.Declared.{Declared}
use Rattle.read_blocks.proofs.AddLemmas.{next_behind}
use Rattle.read_blocks.proofs.NameLemmas.{declared_behind}
use Rattle.read_blocks.proofs.declarations.declared_in.Goals as goal

pub turns-preserved : goal.turns-preserved
turns-preserved c =
    let elem : Turn Element → Element = λ turn. turn.elem in
    let turns = c.turns-turn-items.result.now in
    let before : List Element = map elem (take c.turns.turn-index turns) in
    record {
      all = c.turns.invariant.all;
      said = c.in_ok-push_declared.ensures
          ∙ ap (λ (front : List Declared). front ++ map shown_declared (declared_among c.args.which (c.turn-item.result.elem ∷ []))) c.turns.invariant.said
          ∙ sym (declared_behind c.args.which before c.turn-item.result.elem)
          ∙ ap (λ (some : List Element). map shown_declared (declared_among c.args.which some)) (sym (next_behind elem turns c.turns.turn-index c.turn-item.result c.turns-test.true c.turn-item.is));
    }

pub returns : goal.returns
returns c =
    let elem : Turn Element → Element = λ turn. turn.elem in
    c.turns.invariant.said
    ∙ ap (λ (some : List Element). map shown_declared (declared_among c.args.which some))
    (ap (map elem) (take_all c.turns.turn-index c.turns-turn-items.result.now c.turns-test.false ∙ c.turns.invariant.all) ∙ sym (elems_turns (out-Element c.args.element.now).nodes))
