use Rattle.std.proofs.Common.{◌∙◌, [], ◌∷◌, length, ap}
use Rattle.std.specs.Option.{option_map, option_to_list}
use Rattle.load_model.specs.declared.element.Element.{Element}
use Rattle.load_model.specs.declared.names.Key.TheVariants as key
use Rattle.load_model.specs.Left.{Left, both, nothing, only_attributes, all_but, attributes_of, children}
use Rattle.load_model.specs.Styles.{layout_part, layout_rules, part_left}
use Rattle.load_model.specs.Values as value
use Rattle.load_model.specs.Values.{rule, attributes_left}
use Rattle.element_parts.specs.Shown.{shown}
use Rattle.sheet_values.proofs.layouts.layout_left.Goals as goal

pub returns : goal.returns
returns c =
    let element : Element = c.args.element.now in
    let own : Left = only_attributes (attributes_left (rule key.Name value.name ∷ []) (attributes_of element)) in
    let others : Left = all_but (length (option_to_list (layout_part element))) (children element) in
    c.both-3.ensures (both (both nothing own) others) (part_left layout_rules (layout_part element))
    (c.both-2.ensures (both nothing own) others (c.both.ensures nothing own c.nothing.ensures c.attributes_out.ensures)
    (c.children_left.ensures ∙ ap (λ count. shown (all_but count (children element))) (c.part_count.ensures ∙ ap (λ part. length (option_to_list part)) c.first-part.ensures)))
    (c.part_left.ensures ∙ ap (λ rules. shown (part_left rules (option_map (λ one. one.now) c.first-part.result))) c.layout_rules.ensures ∙ ap (λ part. shown (part_left layout_rules part)) c.first-part.ensures)
