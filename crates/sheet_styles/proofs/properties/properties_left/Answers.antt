use Rattle.std.proofs.Common.{ℕ, Option, ◌+◌, ◌∙◌, length, ap, ap₂}
use Rattle.std.specs.Option.{option_map, option_to_list}
use Rattle.load_model.specs.declared.element.Element.{Element}
use Rattle.load_model.specs.Left.{Left, both, nothing, all_but, children}
use Rattle.load_model.specs.Styles.{paragraph_part, text_part, paragraph_rules, text_rules, part_left}
use Rattle.element_parts.specs.Shown.{shown}
use Rattle.sheet_styles.proofs.properties.properties_left.Goals as goal

pub returns : goal.returns
returns c =
    let element : Element = c.args.element.now in
    let count : Option Element → Option Element → ℕ = λ one other. length (option_to_list one) + length (option_to_list other) in
    let others : Left = all_but (count (paragraph_part c.args.family element) (text_part element)) (children element) in
    let own : Left = part_left paragraph_rules (paragraph_part c.args.family element) in
    c.both-3.ensures (both (both nothing others) own) (part_left (text_rules c.args.family) (text_part element))
    (c.both-2.ensures (both nothing others) own
    (c.both.ensures nothing others c.nothing.ensures
    (c.children_left.ensures ∙ ap (λ read. shown (all_but read (children element))) (c.count_both.ensures ∙ ap₂ count c.paragraph_part-paragraph.ensures c.text_part-text.ensures)))
    (c.part_left.ensures ∙ ap (λ rules. shown (part_left rules (option_map (λ part. part.now) c.paragraph_part-paragraph.result))) c.paragraph_rules.ensures
    ∙ ap (λ part. shown (part_left paragraph_rules part)) c.paragraph_part-paragraph.ensures))
    (c.part_left-2.ensures ∙ ap (λ rules. shown (part_left rules (option_map (λ part. part.now) c.text_part-text.result))) c.text_rules.ensures
    ∙ ap (λ part. shown (part_left (text_rules c.args.family) part)) c.text_part-text.ensures)
