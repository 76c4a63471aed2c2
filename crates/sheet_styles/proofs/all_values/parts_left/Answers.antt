use Rattle.std.proofs.Common.{◌∙◌, List, [], map, take, ap, sym}
use Rattle.load_model.specs.declared.element.Element.{Element}
use Rattle.load_model.specs.Left.{Left, all_of, only_attributes, attributes_of}
use Rattle.load_model.specs.Values.{attributes_left}
use Rattle.element_parts.specs.Shown.{shown}
use Rattle.sheet_values.proofs.Steps.{left_behind, next_behind}
use Rattle.sheet_styles.proofs.all_values.parts_left.Goals as goal

pub parts-preserved : goal.parts-preserved
parts-preserved c =
    let before : List Element = map (λ part. part.now) (take c.parts.part-index c.args.parts.now) in
    let own : Element → Left = λ part. only_attributes (attributes_left [] (attributes_of part)) in
    left_behind own before c.part-item.result.now _ (c.both-total.ensures (all_of (map own before)) (own c.part-item.result.now) c.parts.invariant c.attributes_out.ensures)
    ∙ ap (λ all. shown (all_of (map own all))) (sym (next_behind (λ part. part.now) c.args.parts.now c.parts.part-index c.part-item.result c.parts-test.true c.part-item.is))
