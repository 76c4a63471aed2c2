use Rattle.std.proofs.Common.{◌∙◌, ◌++◌, map, ap, sym}
use Rattle.load_model.specs.Left.{all_of}
use Rattle.load_model.specs.Styles.{layout_left}
use Rattle.sheet_values.specs.Read.{layouts_in}
use Rattle.sheet_values.proofs.Steps.{flat_behind, left_behind}
use Rattle.sheet_values.proofs.layouts.with_layout.Goals as goal

pub returns : goal.returns
returns c = λ before are. record {
  layouts_are = c.in_ok-add_layout.ensures ∙ ap (λ all. all ++ layouts_in c.args.element.now) are.layouts_are ∙ sym (flat_behind layouts_in before c.args.element.now);
  left_is = left_behind layout_left before c.args.element.now _ (c.both.ensures (all_of (map layout_left before)) (layout_left c.args.element.now) are.left_is c.layout_left.ensures);
}
