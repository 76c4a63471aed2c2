use Rattle.std.proofs.Common.{◌∙◌, ◌∷◌, [], ap, drop, length, map, take}
use Rattle.doc_model.specs.declared.style.Family.TheVariants as family
use Rattle.load_model.specs.declared.names.Key.TheVariants as key
use Rattle.load_model.specs.Blocks.{ReadSource, left_by, section_rules}
use Rattle.load_model.specs.Left.{Left, all_of, attributes_of, both, nothing, only_elements}
use Rattle.load_model.specs.Styles.{reference}
use Rattle.load_model.specs.Values as value
use Rattle.load_model.specs.Values.{rule}
use Rattle.element_parts.specs.Shown.{shown}
use Rattle.read_blocks.proofs.SectionLemmas.{others_count}
use Rattle.read_blocks.proofs.sections.left_in_section.Goals as goal

pub returns : goal.returns
returns c = λ known more knows sources declarations left.
    let attributes = attributes_of c.args.element.now in
    let own : Left = left_by (section_rules known) attributes in
    let first : Left = all_of (map (λ (read : ReadSource). read.left) (take 1 more.sources)) in
    let others : Left = only_elements (length (drop 1 more.sources)) in
    let dropped : Left = only_elements (length more.declarations) in
    c.both-5.ensures (both (both (both nothing own) first) others) (both dropped more.left)
    (c.both-3.ensures (both (both nothing own) first) others
    (c.both-2.ensures (both nothing own) first
    (c.both.ensures nothing own c.nothing.ensures
    (c.section_left.ensures ∙ ap (λ styles. shown (left_by (rule key.TextName value.name ∷ rule key.StyleName (reference styles) ∷ rule key.Protected value.truth ∷ rule key.Display value.display ∷ []) attributes)) (knows.styles_are family.Section)))
    (c.first_left.ensures more.sources sources))
    (c.elements.ensures ∙ ap (λ n. shown (only_elements n)) (c.saturating_sub.ensures ∙ others_count more.sources c.args.sources.now sources)))
    (c.both-4.ensures dropped more.left (c.elements-2.ensures ∙ ap (λ n. shown (only_elements n)) declarations) left)
