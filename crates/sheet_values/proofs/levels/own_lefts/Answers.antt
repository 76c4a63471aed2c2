use Rattle.std.proofs.Common.{◌∙◌, List, map, take, ap, sym}
use Rattle.load_model.specs.declared.element.Element.{Element}
use Rattle.load_model.specs.Left.{both, all_of, only_attributes, leaf_left, attributes_of}
use Rattle.load_model.specs.Values.{attributes_left}
use Rattle.element_parts.specs.Shown.{shown}
use Rattle.sheet_values.specs.LevelKinds.{level_left}
use Rattle.sheet_values.proofs.Steps.{left_behind, next_behind}
use Rattle.sheet_values.proofs.levels.own_lefts.Goals as goal

pub kept-preserved : goal.kept-preserved
kept-preserved c =
    let element : Element = c.element-item.result.now in
    let before : List Element = map (λ one. one.now) (take c.kept.element-index c.args.kept.now) in
    left_behind level_left before element _ (c.both-total.ensures (all_of (map level_left before)) (level_left element) c.kept.invariant
    (c.own_left.ensures ∙ ap (λ rules. shown (both (only_attributes (attributes_left rules (attributes_of element))) (leaf_left element))) c.level_rules.ensures))
    ∙ ap (λ all. shown (all_of (map level_left all))) (sym (next_behind (λ one. one.now) c.args.kept.now c.kept.element-index c.element-item.result c.kept-test.true c.element-item.is))
