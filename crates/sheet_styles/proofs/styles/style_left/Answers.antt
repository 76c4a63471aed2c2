use Rattle.std.proofs.Common.{◌∙◌, map, ap, sym}
use Rattle.load_model.specs.declared.element.Element.{Element}
use Rattle.load_model.specs.Left.{nothing, only_attributes, attributes_of, all_of}
use Rattle.load_model.specs.Styles.{StyleName, properties_left}
use Rattle.load_model.specs.Values.{attributes_left}
use Rattle.element_parts.specs.Shown.{shown}
use Rattle.sheet_names.specs.Known.{of_family}
use Rattle.sheet_styles.specs.Rules.{rules_by, left_by}
use Rattle.sheet_styles.proofs.StyleSteps.{named_one}
use Rattle.sheet_styles.proofs.styles.style_left.Goals as goal

pub returns-in-Some : goal.returns-in-Some
returns-in-Some c =
    let element : Element = c.args.element.now in
    let masters = c.args.names.now.masters in
    let styles = of_family c.args.names.now.styles c.in-Some.style.family in
    c.both.ensures nothing (left_by styles masters c.in-Some.style.family element) c.nothing.ensures
    (c.both-own.ensures (only_attributes (attributes_left (rules_by styles masters) (attributes_of element))) (properties_left c.in-Some.style.family element)
    (c.attributes.ensures ∙ ap (λ count. shown (only_attributes count)) (c.attributes_count-count.ensures ∙ ap (attributes_left (rules_by styles masters)) c.get.ensures)) c.properties_left.ensures)
    ∙ ap (λ all. shown (all_of (map (λ (style : StyleName). left_by (of_family c.args.names.now.styles style.family) masters style.family element) all))) (sym (named_one c.in-Some.style element c.in-Some.ensures))
