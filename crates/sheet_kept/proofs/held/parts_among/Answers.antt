use Rattle.std.proofs.Common.{◌≡◌, ◌∙◌, ◌+◌, ◌++◌, ◌∷◌, List, [], true, false, map, take, ap, sym}
use Rattle.std.proofs.lemmas.List.{map-append, map_more}
use Rattle.load_model.specs.declared.element.Element.{Element}
use Rattle.load_model.specs.Left.{tag_of}
use Rattle.sheet_kept.specs.Held.{parts_of}
use Rattle.sheet_kept.proofs.PartLemmas.{no_part, one_part, any_part}
use Rattle.sheet_kept.proofs.held.parts_among.Goals as goal
use Rattle.sheet_kept.proofs.held.parts_among.Goals.{then-is_style_part+then-not-has_tag+in_ok-push, else-is_style_part, else-is_style_part-via-then-is_style_part+else-not-has_tag, else-is_style_part-via-else-is_style_part}

pub turns-preserved : goal.turns-preserved
turns-preserved c =
    let before : List Element = map (λ turn. turn.elem) (take c.turns.turn-index c.args.turns.now) in
    let element : Element = c.turn-item.result.elem in
    let next : map (λ turn. turn.elem) (take (c.turns.turn-index + 1) c.args.turns.now) ≡ before ++ element ∷ [] =
    map_more (λ turn. turn.elem) c.args.turns.now c.turns.turn-index c.turn-item.result c.turns-test.true
    ∙ ap (λ turn. before ++ turn.elem ∷ []) (sym c.turn-item.is) in
    elim c.if-is_style_part.branch [
      | then-is_style_part+then-not-has_tag+in_ok-push w ↦
          rw w.parts-is (ap (map (λ part. part.now)) w.in_ok-push.ensures.items ∙ map-append (λ part. part.now) c.turns.parts.items _
          ∙ ap (λ all. all ++ element ∷ []) c.turns.invariant
          ∙ sym (ap parts_of next ∙ one_part before element false (sym c.is_style_part.ensures ∙ w.if-is_style_part.true)
          (any_part (tag_of element) c.turns.parts.items _ (parts_of before) _ false c.turns.invariant w.as_slice.ensures.value w.has_tag.ensures w.if-not-has_tag.true)))
      | else-is_style_part w ↦
          elim w.else-is_style_part.branch [
            | else-is_style_part-via-then-is_style_part+else-not-has_tag w' ↦
                rw w.parts-is (c.turns.invariant ∙ sym (ap parts_of next ∙ one_part before element true (sym c.is_style_part.ensures ∙ w'.if-is_style_part.true)
                (any_part (tag_of element) c.turns.parts.items _ (parts_of before) _ true c.turns.invariant w'.as_slice.ensures.value w'.has_tag.ensures w'.if-not-has_tag.false)))
            | else-is_style_part-via-else-is_style_part w' ↦
                rw w.parts-is (c.turns.invariant ∙ sym (ap parts_of next ∙ no_part before element (sym c.is_style_part.ensures ∙ w'.if-is_style_part.false)))
          ]
    ]
