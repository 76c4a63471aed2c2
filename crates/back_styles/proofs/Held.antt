-- The properties that an element of a style holds are read back, and nothing is left out in them.
use Rattle.std.proofs.Common.{◌≡◌, ℕ, ◌+◌, ◌-◌, List, [], ◌∷◌, map, length, ap, ap₂, sym, ◌∙◌, arith, Option, None, option_to_list}
use Rattle.markup_nodes.specs.declared.words.Attr.{Attr}
use Rattle.doc_model.specs.declared.style.Family.{Family}
use Rattle.doc_model.specs.declared.style.Family.TheVariants as family
use Rattle.doc_model.specs.declared.style.Props.{Props}
use Rattle.doc_model.specs.Empty.{unstated}
use Rattle.doc_model.specs.Valid.{AreOf, StatesNoTabs}
use Rattle.load_model.specs.declared.names.Key.TheVariants as key
use Rattle.load_model.specs.declared.names.Tag.TheVariants as tag
use Rattle.load_model.specs.declared.element.Element.{Element}
use Rattle.load_model.specs.Left.{Left, nothing, all_of, only_elements, all_but, children, first}
use Rattle.load_model.specs.Styles.{part_attributes, part_left, paragraph_rules, text_rules, properties, style_properties, properties_left}
use Rattle.load_model.specs.Values as value
use Rattle.load_model.specs.Values.{Rule, rule, attributes_left}
use Rattle.written_model.specs.Styles.{paragraph_attributes, text_attributes}
use Rattle.back_styles.specs.Styles.{AreInRange}
use Rattle.back_styles.proofs.Parts.{parts_held, paragraph_in, paragraph_found, text_found, paragraph_none, text_none, parts_counted}
use Rattle.back_styles.proofs.Properties.{paragraph_slots, text_slots, paragraph_named, text_named, properties_back, paragraph_good, text_good}
use Rattle.back_styles.proofs.Slots.{none_left, stated_of}

none : (n : ℕ) → n - n ≡ 0
none n = omega arith

-- what properties of text alone, and none, are written as
no_paragraph : (props : Props) → props ≡ record unstated { display = props.display } → paragraph_attributes props ≡ []
unfolding unstated
no_paragraph props is = ap paragraph_attributes is

no_text : (props : Props) → props ≡ unstated → text_attributes props ≡ []
unfolding unstated
no_text props is = ap text_attributes is

no_display : (props : Props) → props ≡ unstated → props ≡ record unstated { display = props.display }
unfolding unstated
no_display props is = is ∙ ap (λ (one : Props). record unstated { display = one.display }) (sym is)

-- an element that holds the parts of properties
module _ (element : Element) (props : Props) (held : children element ≡ parts_held (paragraph_attributes props) (text_attributes props)) where
  paragraph_read : part_attributes (first tag.ParagraphProperties (children element)) ≡ stated_of (paragraph_slots props)
  paragraph_read = ap (λ (inner : List Element). part_attributes (first tag.ParagraphProperties inner)) held ∙ paragraph_found (paragraph_attributes props) (text_attributes props) ∙ paragraph_named props

  text_read : part_attributes (first tag.TextProperties (children element)) ≡ stated_of (text_slots props)
  text_read = ap (λ (inner : List Element). part_attributes (first tag.TextProperties inner)) held ∙ text_found (paragraph_attributes props) (text_attributes props) ∙ text_named props

  pub properties_read : (of : Family) → AreOf of props → StatesNoTabs props → AreInRange props → style_properties of element ≡ props
  properties_read family.Section is tabs ranges = sym is
  properties_read family.Paragraph is tabs ranges = ap₂ properties paragraph_read text_read ∙ properties_back props tabs ranges
  properties_read family.Text is tabs ranges = ap₂ properties (sym (sym (paragraph_named props) ∙ ap (map _) (no_paragraph props is))) text_read ∙ properties_back props tabs ranges

  -- what is left out in the parts
  paragraph_whole : AreInRange props → part_left paragraph_rules (first tag.ParagraphProperties (children element)) ≡ nothing
  paragraph_whole ranges =
      ap (λ (inner : List Element). part_left paragraph_rules (first tag.ParagraphProperties inner)) held
      ∙ paragraph_none (paragraph_attributes props) (text_attributes props) paragraph_rules (ap (attributes_left paragraph_rules) (paragraph_named props) ∙ none_left paragraph_rules (paragraph_slots props) (paragraph_good props ranges))

  text_whole : part_left (rule key.Display value.display ∷ []) (first tag.TextProperties (children element)) ≡ nothing
  text_whole =
      ap (λ (inner : List Element). part_left (rule key.Display value.display ∷ []) (first tag.TextProperties inner)) held
      ∙ text_none (paragraph_attributes props) (text_attributes props) (rule key.Display value.display ∷ []) (ap (attributes_left (rule key.Display value.display ∷ [])) (text_named props) ∙ none_left (rule key.Display value.display ∷ []) (text_slots props) (text_good props))

  -- each element is read
  all_read : (count : ℕ) → count ≡ length (children element) → all_but count (children element) ≡ nothing
  all_read count e = ap (λ (read : ℕ). only_elements (length (children element) - read)) e ∙ ap only_elements (none (length (children element)))

  both_counted : length (option_to_list (first tag.ParagraphProperties (children element))) + length (option_to_list (first tag.TextProperties (children element))) ≡ length (children element)
  both_counted =
      ap (λ (inner : List Element). length (option_to_list (first tag.ParagraphProperties inner)) + length (option_to_list (first tag.TextProperties inner))) held
      ∙ parts_counted (paragraph_attributes props) (text_attributes props) ∙ sym (ap length held)

  text_counted : paragraph_attributes props ≡ [] → 0 + length (option_to_list (first tag.TextProperties (children element))) ≡ length (children element)
  text_counted empty = ap (λ (one : Option Element). length (option_to_list one) + length (option_to_list (first tag.TextProperties (children element)))) (sym nothing_found) ∙ both_counted where
    nothing_found : first tag.ParagraphProperties (children element) ≡ None
    nothing_found =
        ap (first tag.ParagraphProperties) (held ∙ ap (λ (attrs : List Attr). parts_held attrs (text_attributes props)) empty) ∙ paragraph_in [] (text_attributes props)

  abbrev all_three : Left → Left → Left → Left
  all_three one other more = all_of (one ∷ other ∷ more ∷ [])

  pub properties_whole : (of : Family) → AreOf of props → AreInRange props → properties_left of element ≡ nothing
  properties_whole family.Paragraph is ranges =
      ap₂ (λ (one other : Left). all_three one other (part_left (text_rules family.Paragraph) (first tag.TextProperties (children element)))) (all_read _ both_counted) (paragraph_whole ranges)
      ∙ ap (all_three nothing nothing) text_whole
  properties_whole family.Text is ranges =
      ap₂ (λ (one other : Left). all_three one nothing other) (all_read _ (text_counted (no_paragraph props is))) text_whole
  properties_whole family.Section is ranges =
      ap (λ (inner : List Element). all_three (all_but (0 + length (option_to_list (first tag.TextProperties inner))) inner) nothing (part_left [] (first tag.TextProperties inner)))
      (held ∙ ap₂ parts_held (no_paragraph props (no_display props is)) (no_text props is))
