-- Page layouts are read back.
use Rattle.std.proofs.Common.{◌≡◌, ℕ, ℤ, true, cond, List, [], ◌∷◌, map, length, codes, refl, ap, ap₂, ◌∙◌, Option, Some, None, option_map, option_to_list, is_some}
use Rattle.std.specs.List.{AllByRecursion as Each}
use Rattle.std.specs.Option.{option_or}
use Rattle.markup_nodes.specs.declared.words.Attr.{Attr}
use Rattle.doc_model.specs.declared.page_layout.PageLayout.{PageLayout}
use Rattle.doc_model.specs.Ranges.{IsLength}
use Rattle.style_model.specs.Lengths.{length_spelling}
use Rattle.load_model.specs.declared.names.Key.{Key}
use Rattle.load_model.specs.declared.names.Key.TheVariants as key
use Rattle.load_model.specs.declared.names.Tag.{Tag}
use Rattle.load_model.specs.declared.names.Tag.TheVariants as tag
use Rattle.load_model.specs.declared.element.Element.{Element}
use Rattle.load_model.specs.Left.{Left, nothing, only_attributes, all_of, all_but, attributes_of, children, is_same_tag, first}
use Rattle.load_model.specs.Styles.{layout_of, layout_rules, part_attributes, part_left, layout_left}
use Rattle.load_model.specs.Values as value
use Rattle.load_model.specs.Values.{Rule, rule, stated, attributes_left}
use Rattle.written_model.specs.Elements.{element, properties}
use Rattle.written_model.specs.Styles.{layout_attributes}
use Rattle.back_names.specs.Named.{named_attribute}
use Rattle.back_values.proofs.Texts.{name_back}
use Rattle.back_styles.specs.Shown.{shown, held_of}
use Rattle.back_styles.proofs.Keys.{name_key, left_key, right_key, top_key, bottom_key}
use Rattle.back_styles.proofs.Parts.{tag_shown, attributes_shown, children_shown, part_none}
use Rattle.back_styles.proofs.Properties.{length_back, margin_back}
use Rattle.back_styles.proofs.Slots.{Piece, Slot, slot, needed, optional, all_slots, all_named, stated_of, look_up, stated_in, value_stated, value_good, IsGood, none_left}
use Rattle.back_sheets.specs.Layouts.{HasLengths, IsReadableLayout, IsLayoutBack, layout_read}
use Rattle.back_sheets.proofs.Keys as named

-- the dimensions of a layout, of which the last stands in front
abbrev pieces : PageLayout → List Piece
pieces layout =
    optional (codes "fo:margin-bottom") key.MarginBottom length_spelling layout.bottom bottom_key
    ∷ optional (codes "fo:margin-top") key.MarginTop length_spelling layout.top top_key
    ∷ optional (codes "fo:margin-right") key.MarginRight length_spelling layout.right right_key
    ∷ optional (codes "fo:margin-left") key.MarginLeft length_spelling layout.left left_key
    ∷ optional (codes "fo:page-height") key.PageHeight length_spelling layout.height named.height_key
    ∷ optional (codes "fo:page-width") key.PageWidth length_spelling layout.width named.width_key ∷ []

abbrev slots : PageLayout → List Slot
slots layout = all_slots (pieces layout)

dimensions_named : (layout : PageLayout) → map named_attribute (layout_attributes layout) ≡ stated_of (slots layout)
dimensions_named layout = all_named (pieces layout)

-- a length that is stated
length_stated : (which : Key) (all : List Slot) (one : Option ℤ) → look_up which all ≡ option_or (option_map length_spelling one) None → Each IsLength (option_to_list one) → stated which value.length_value (stated_of all) ≡ one
length_stated which all one found is = value_stated value.length_value length_spelling IsLength length_back which all one found is

length_good : (one : Option ℤ) → Each IsLength (option_to_list one) → Each (λ text. is_some (value.length_value text) ≡ true) (option_to_list (option_map length_spelling one))
length_good one is = value_good value.length_value length_spelling IsLength length_back one is

dimensions_back : (layout : PageLayout) → HasLengths layout → layout_of layout.name (stated_of (slots layout)) ≡ layout
dimensions_back layout are = λ i. record {
  name = layout.name;
  width = length_stated key.PageWidth (slots layout) layout.width refl are.width i;
  height = length_stated key.PageHeight (slots layout) layout.height refl are.height i;
  left = margin_back key.MarginLeft (slots layout) layout.left refl refl are.left i;
  right = margin_back key.MarginRight (slots layout) layout.right refl refl are.right i;
  top = margin_back key.MarginTop (slots layout) layout.top refl refl are.top i;
  bottom = margin_back key.MarginBottom (slots layout) layout.bottom refl refl are.bottom i;
}

dimensions_good : (layout : PageLayout) → HasLengths layout → Each (IsGood layout_rules) (slots layout)
dimensions_good layout are =
    (length_good layout.width are.width, (length_good layout.height are.height, (length_good layout.left are.left, (length_good layout.right are.right, (length_good layout.top are.top, (length_good layout.bottom are.bottom, tt))))))

-- the dimensions among what a layout holds
abbrev part_name : List ℕ
part_name = codes "style:page-layout-properties"

abbrev held : List Attr → List Element
held attrs = held_of (properties part_name attrs)

part_first : (attr : Attr) (attrs : List Attr) → first tag.PageLayoutProperties (held (attr ∷ attrs)) ≡ Some (shown (element part_name (attr ∷ attrs) []))
part_first attr attrs = ap (λ (of : Tag). cond (is_same_tag of tag.PageLayoutProperties) (Some (shown (element part_name (attr ∷ attrs) []))) None) (tag_shown part_name (attr ∷ attrs) [] tag.PageLayoutProperties named.part_tag)

part_found : (attrs : List Attr) → part_attributes (first tag.PageLayoutProperties (held attrs)) ≡ map named_attribute attrs
part_found [] = refl
part_found (attr ∷ attrs) = ap part_attributes (part_first attr attrs) ∙ attributes_shown part_name (attr ∷ attrs) []

part_counted : (attrs : List Attr) → all_but (length (option_to_list (first tag.PageLayoutProperties (held attrs)))) (held attrs) ≡ nothing
part_counted [] = refl
part_counted (attr ∷ attrs) = ap (λ (one : Option Element). all_but (length (option_to_list one)) (held (attr ∷ attrs))) (part_first attr attrs)

part_whole : (rules : List Rule) (attrs : List Attr) → attributes_left rules (map named_attribute attrs) ≡ 0 → part_left rules (first tag.PageLayoutProperties (held attrs)) ≡ nothing
part_whole rules [] none = refl
part_whole rules (attr ∷ attrs) none = ap (part_left rules) (part_first attr attrs) ∙ part_none rules part_name (attr ∷ attrs) none

module _ (layout : PageLayout) (is : IsReadableLayout layout) where
  abbrev own : List Slot
  own = slot key.Name (Some layout.name) ∷ []

  own_attributes : attributes_of (layout_read layout) ≡ stated_of own
  own_attributes = attributes_shown (codes "style:page-layout") _ (properties part_name (layout_attributes layout)) ∙ all_named (needed (codes "style:name") key.Name layout.name name_key ∷ [])

  own_children : children (layout_read layout) ≡ held (layout_attributes layout)
  own_children = children_shown (codes "style:page-layout") _ (properties part_name (layout_attributes layout))

  none_is_left : layout_left (layout_read layout) ≡ nothing
  none_is_left =
      ap₂ (λ (attributes : Left) (inner : List Element). all_of (attributes ∷ all_but (length (option_to_list (first tag.PageLayoutProperties inner))) inner ∷ part_left layout_rules (first tag.PageLayoutProperties inner) ∷ []))
      (ap only_attributes (ap (attributes_left (rule key.Name value.name ∷ [])) own_attributes ∙ none_left (rule key.Name value.name ∷ []) own ((ap is_some (name_back layout.name is.name.0 is.name.1), tt), tt))) own_children
      ∙ ap₂ (λ (one other : Left). all_of (nothing ∷ one ∷ other ∷ [])) (part_counted (layout_attributes layout))
      (part_whole layout_rules (layout_attributes layout) (ap (attributes_left layout_rules) (dimensions_named layout) ∙ none_left layout_rules (slots layout) (dimensions_good layout is.lengths)))

  pub layout_back : IsLayoutBack layout
  layout_back = record {
    name = ap (stated key.Name value.name) own_attributes ∙ stated_in key.Name value.name own (Some layout.name) refl ∙ name_back layout.name is.name.0 is.name.1;
    value =
        ap (λ (inner : List Element). layout_of layout.name (part_attributes (first tag.PageLayoutProperties inner))) own_children
        ∙ ap (layout_of layout.name) (part_found (layout_attributes layout) ∙ dimensions_named layout) ∙ dimensions_back layout is.lengths;
    left = none_is_left;
  }
