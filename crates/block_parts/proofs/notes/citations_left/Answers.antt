use Rattle.std.proofs.Common.{◌∙◌, ◌++◌, ◌∷◌, [], List, ap, map, sym, take}
use Rattle.markup_nodes.specs.declared.nodes.Turn.{Turn}
use Rattle.load_model.specs.declared.element.Element.{Element}
use Rattle.element_parts.specs.Shown.{shown}
use Rattle.std.proofs.lemmas.List.{map_more}
use Rattle.block_parts.specs.Notes.{attributes_in, citations}
use Rattle.block_parts.proofs.NoteLemmas.{attributes_behind}
use Rattle.block_parts.proofs.notes.citations_left.Goals as goal

pub turns-preserved : goal.turns-preserved
turns-preserved c =
    let elem : Turn Element → Element = λ turn. turn.elem in
    let before : List Element = map elem (take c.turns.turn-index c.args.turns.now) in
    let here = c.turn-item.result.elem in
    c.both-total.ensures (attributes_in (citations before)) (attributes_in (citations (here ∷ []))) c.turns.invariant c.citation_left.ensures
    ∙ ap shown (sym (attributes_behind before here))
    ∙ ap (λ all. shown (attributes_in (citations all))) (sym (map_more elem c.args.turns.now c.turns.turn-index c.turn-item.result c.turns-test.true ∙ ap (λ (one : Turn Element). before ++ one.elem ∷ []) (sym c.turn-item.is)))
