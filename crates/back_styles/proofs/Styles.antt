-- Styles and the default style are read back.
use Rattle.std.proofs.Common.{◌≡◌, ℕ, ◌≤◌, ◌++◌, ◌&&◌, true, false, cond, List, [], ◌∷◌, map, codes, decimal, zero, suc, refl, ap, ap₂, sym, ◌∙◌, arith, inl, inr, Option, Some, None, option_to_list, is_some}
use Rattle.std.specs.List.{flat_map, AllByRecursion as Each}
use Rattle.std.specs.Option.{option_and_then, option_map_or, option_or}
use Rattle.markup_nodes.specs.declared.tree.Elem.{Elem}
use Rattle.markup_nodes.specs.Node.{Node}
use Rattle.markup_nodes.specs.declared.words.Attr.{Attr}
use Rattle.doc_model.specs.declared.style.Family.{Family}
use Rattle.doc_model.specs.declared.style.Family.TheVariants as family
use Rattle.doc_model.specs.declared.style.Props.{Props}
use Rattle.doc_model.specs.declared.style.Style.{Style}
use Rattle.doc_model.specs.Empty.{unstated}
use Rattle.doc_model.specs.Valid.{StatesNoTabs}
use Rattle.style_model.specs.Lineage.{is_same_family}
use Rattle.load_model.specs.declared.names.Key.{Key}
use Rattle.load_model.specs.declared.names.Key.TheVariants as key
use Rattle.load_model.specs.declared.names.Tag.{Tag}
use Rattle.load_model.specs.declared.names.Tag.TheVariants as tag
use Rattle.load_model.specs.declared.element.Attribute.{Attribute}
use Rattle.load_model.specs.declared.element.Element.{Element}
use Rattle.load_model.specs.Left.{Left, nothing, both, only_attributes, all_of, attributes_of, children, tag_of, is_same_tag, first}
use Rattle.load_model.specs.Styles.{Names, StyleName, style_reference, master_reference, family_of, name_of, is_default_style, properties as model_properties, style_properties, style_rules, properties_left, style_of, style_left, default_left}
use Rattle.load_model.specs.Values as value
use Rattle.load_model.specs.Values.{Rule, rule, stated, attributes_left}
use Rattle.written_model.specs.Elements.{attribute, element, properties}
use Rattle.written_model.specs.Styles.{paragraph_attributes, text_attributes, property_elements, outline_attribute}
use Rattle.written_model.specs.Values.{family_text}
use Rattle.back_names.specs.Named.{named_attribute}
use Rattle.back_paragraphs.specs.Paragraphs.{IsNoneOrGood}
use Rattle.back_values.proofs.Numbers.{number_back}
use Rattle.back_values.proofs.Texts.{name_back}
use Rattle.back_values.proofs.Words.{family_back}
use Rattle.back_styles.specs.Shown.{shown, held_of}
use Rattle.back_styles.specs.Styles.{AreInRange, IsReadableStyle, IsStyleBack, IsDefaultBack, style_read, default_read}
use Rattle.back_styles.proofs.Held.{properties_read, properties_whole}
use Rattle.back_styles.proofs.Keys as named
use Rattle.back_styles.proofs.Parts.{tag_shown, attributes_shown, children_shown, parts_held, paragraph_name, text_name}
use Rattle.back_styles.proofs.Properties.{paragraph_named, text_named, properties_back}
use Rattle.back_styles.proofs.Slots.{Piece, Slot, slot, own, needed, optional, not_empty, some_text, all_slots, all_named, stated_of, look_up, stated_in, value_stated, value_good, IsGood, none_left}

-- the outline level of a style, where it has one
abbrev outline_text : ℕ → Option (List ℕ)
outline_text zero = None
outline_text (suc level) = Some (decimal (suc level))

outline_same : (level : ℕ) → map named_attribute (outline_attribute level) ≡ own key.DefaultOutlineLevel (outline_text level)
outline_same zero = refl
outline_same (suc level) = (needed (codes "style:default-outline-level") key.DefaultOutlineLevel (decimal (suc level)) named.outline_key).same

outline_back : (level : ℕ) → level ≤ 10 → option_map_or (λ one. one) (option_and_then value.level (outline_text level)) 0 ≡ level
outline_back zero few = refl
outline_back (suc level) few = ap (λ (found : Option ℕ). option_map_or (λ one. one) found 0) (number_back 1 10 (suc level) (omega arith) few (omega arith))

outline_good : (level : ℕ) → level ≤ 10 → Each (λ text. is_some (value.level text) ≡ true) (option_to_list (outline_text level))
outline_good zero few = tt
outline_good (suc level) few = (ap is_some (number_back 1 10 (suc level) (omega arith) few (omega arith)), tt)

-- a name that is none, or good
module _ (read : List ℕ → Option (List ℕ)) where
  pub reference_back : (name : List ℕ) → IsNoneOrGood read name → option_map_or (λ one. one) (option_and_then read (some_text name)) [] ≡ name
  reference_back [] is = refl
  reference_back (c ∷ cs) (inl none) = absurd (cc)
  reference_back (c ∷ cs) (inr good) = ap (λ (found : Option (List ℕ)). option_map_or (λ one. one) found []) good

  pub reference_good : (name : List ℕ) → IsNoneOrGood read name → Each (λ text. is_some (read text) ≡ true) (option_to_list (some_text name))
  reference_good [] is = tt
  reference_good (c ∷ cs) (inl none) = absurd (cc)
  reference_good (c ∷ cs) (inr good) = (ap is_some good, tt)

-- the attributes of a style, of which the last stands in front
abbrev style_pieces : Style → List Piece
style_pieces style =
    (record { attrs = outline_attribute style.outline; slot = slot key.DefaultOutlineLevel (outline_text style.outline); same = outline_same style.outline })
    ∷ optional (codes "style:master-page-name") key.Master (λ name. name) style.master named.master_key
    ∷ not_empty (codes "style:next-style-name") key.Next style.next named.next_key
    ∷ not_empty (codes "style:parent-style-name") key.Parent style.parent named.parent_key
    ∷ needed (codes "style:family") key.Family (family_text style.family) named.family_key
    ∷ needed (codes "style:name") key.Name style.name named.name_key ∷ []

abbrev style_slots : Style → List Slot
style_slots style = all_slots (style_pieces style)

style_attributes : (style : Style) → attributes_of (style_read style) ≡ stated_of (style_slots style)
style_attributes style = attributes_shown (codes "style:style") _ (property_elements style.props) ∙ all_named (style_pieces style)

style_children : (style : Style) → children (style_read style) ≡ parts_held (paragraph_attributes style.props) (text_attributes style.props)
style_children style = children_shown (codes "style:style") _ (property_elements style.props)

module _ (names : Names) (style : Style) (is : IsReadableStyle names style) where
  abbrev read : Element
  read = style_read style

  abbrev slots : List Slot
  slots = style_slots style

  family_stated : family_of read ≡ Some style.family
  family_stated = ap (stated key.Family value.family_of_text) (style_attributes style) ∙ stated_in key.Family value.family_of_text slots (Some (family_text style.family)) refl ∙ family_back style.family

  name_stated : name_of read ≡ Some style.name
  name_stated = ap (stated key.Name value.name) (style_attributes style) ∙ stated_in key.Name value.name slots (Some style.name) refl ∙ name_back style.name is.name.0 is.name.1

  value_is : style_of names style.auto style.family style.name read ≡ style
  value_is = λ i. record {
    family = style.family;
    name = style.name;
    auto = style.auto;
    parent = referred key.Parent style.parent refl is.parent i;
    next = referred key.Next style.next refl is.next i;
    master = (ap (stated key.Master (master_reference names)) (style_attributes style) ∙ value_stated (master_reference names) (λ name. name) (λ name. master_reference names name ≡ Some name) (λ name good. good) key.Master slots style.master refl is.master) i;
    outline = (ap (λ (attributes : List Attribute). option_map_or (λ one. one) (stated key.DefaultOutlineLevel value.level attributes) 0) (style_attributes style)
        ∙ ap (λ (found : Option ℕ). option_map_or (λ one. one) found 0) (stated_in key.DefaultOutlineLevel value.level slots (outline_text style.outline) refl) ∙ outline_back style.outline is.outline) i;
    props = properties_read read style.props (style_children style) style.family is.properties is.tabs is.ranges i;
  } where
    reference : List ℕ → Option (List ℕ)
    reference = style_reference names style.family

    referred : (which : Key) (name : List ℕ) → look_up which slots ≡ option_or (some_text name) None → IsNoneOrGood reference name → option_map_or (λ one. one) (stated which reference (attributes_of read)) [] ≡ name
    referred which name found good =
        ap (λ (attributes : List Attribute). option_map_or (λ one. one) (stated which reference attributes) []) (style_attributes style)
        ∙ ap (λ (one : Option (List ℕ)). option_map_or (λ name. name) one []) (stated_in which reference slots (some_text name) found) ∙ reference_back reference name good

  all_good : Each (IsGood (style_rules names style.family)) slots
  all_good = (
    (ap is_some (name_back style.name is.name.0 is.name.1), tt),
    (
      (ap is_some (family_back style.family), tt),
      (
        reference_good (style_reference names style.family) style.parent is.parent,
        (
          reference_good (style_reference names style.family) style.next is.next,
          (
            value_good (master_reference names) (λ name. name) (λ name. master_reference names name ≡ Some name) (λ name good. good) style.master is.master,
            (outline_good style.outline is.outline, tt),
          ),
        ),
      ),
    ),
  )

  none_is_left : style_left names read ≡ nothing
  none_is_left =
      ap₂ (λ (of : Option Family) (name : Option (List ℕ)). all_of (map each_left (flat_map (λ own. map (λ text. record { family = own; name = text }) (option_to_list name)) (option_to_list of)))) family_stated name_stated
      ∙ ap₂ (λ (one other : Left). all_of (both one other ∷ []))
      (ap only_attributes (ap (attributes_left (style_rules names style.family)) (style_attributes style) ∙ none_left (style_rules names style.family) slots all_good))
      (properties_whole read style.props (style_children style) style.family is.properties is.ranges)
    where
      each_left : StyleName → Left
      each_left own = both (only_attributes (attributes_left (style_rules names own.family) (attributes_of read))) (properties_left own.family read)

  pub style_back : IsStyleBack names style
  style_back = record { family = family_stated; name = name_stated; value = value_is; left = none_is_left }

-- the default style round what it holds
abbrev round : List (Node Elem) → List (Node Elem)
round [] = []
round (node ∷ nodes) = element (codes "style:default-style") (attribute (codes "style:family") (codes "paragraph") ∷ []) (node ∷ nodes) ∷ []

module _ (defaults : Props) (tabs : StatesNoTabs defaults) (ranges : AreInRange defaults) where
  -- elements of which the first default style is read as these properties
  record IsRound (elements : List Element) : Type 0 where
    of_paragraphs : Each (λ one. is_default_style one ≡ true) elements
    value : option_map_or (style_properties family.Paragraph) (first tag.DefaultStyle elements) unstated ≡ defaults
    left : all_of (map default_left (option_to_list (first tag.DefaultStyle elements))) ≡ nothing

  abbrev attrs : List Attr
  attrs = attribute (codes "style:family") (codes "paragraph") ∷ []

  abbrev family_slots : List Slot
  family_slots = slot key.Family (Some (codes "paragraph")) ∷ []

  -- one that holds something
  module _ (node : Node Elem) (nodes : List (Node Elem)) (held : held_of (node ∷ nodes) ≡ parts_held (paragraph_attributes defaults) (text_attributes defaults)) where
    abbrev one : Element
    one = shown (element (codes "style:default-style") attrs (node ∷ nodes))

    one_attributes : attributes_of one ≡ stated_of family_slots
    one_attributes = attributes_shown (codes "style:default-style") attrs (node ∷ nodes) ∙ all_named (needed (codes "style:family") key.Family (codes "paragraph") named.family_key ∷ [])

    one_tag : tag_of one ≡ tag.DefaultStyle
    one_tag = tag_shown (codes "style:default-style") attrs (node ∷ nodes) tag.DefaultStyle named.default_tag

    one_children : children one ≡ parts_held (paragraph_attributes defaults) (text_attributes defaults)
    one_children = children_shown (codes "style:default-style") attrs (node ∷ nodes) ∙ held

    one_family : family_of one ≡ Some family.Paragraph
    one_family = ap (stated key.Family value.family_of_text) one_attributes ∙ stated_in key.Family value.family_of_text family_slots (Some (codes "paragraph")) refl ∙ family_back family.Paragraph

    one_found : first tag.DefaultStyle (one ∷ []) ≡ Some one
    one_found = ap (λ (of : Tag). cond (is_same_tag of tag.DefaultStyle) (Some one) None) one_tag

    one_left : default_left one ≡ nothing
    one_left =
        ap₂ (λ (front behind : Left). both front behind)
        (ap only_attributes (ap (attributes_left (rule key.Family value.family_of_text ∷ [])) one_attributes ∙ none_left (rule key.Family value.family_of_text ∷ []) family_slots ((ap is_some (family_back family.Paragraph), tt), tt)))
        (properties_whole one defaults one_children family.Paragraph tt ranges)

    one_round : IsRound (one ∷ [])
    one_round = record {
      of_paragraphs = (ap₂ (λ (of : Tag) (own : Option Family). is_same_tag of tag.DefaultStyle && option_map_or (is_same_family family.Paragraph) own false) one_tag one_family, tt);
      value = ap (λ (found : Option Element). option_map_or (style_properties family.Paragraph) found unstated) one_found ∙ properties_read one defaults one_children family.Paragraph tt tabs ranges;
      left = ap (λ (found : Option Element). all_of (map default_left (option_to_list found))) one_found ∙ ap (λ (left : Left). all_of (left ∷ [])) one_left;
    }

  -- where nothing is written, nothing is stated
  nothing_stated : (paragraph text : List Attr) → paragraph ≡ paragraph_attributes defaults → text ≡ text_attributes defaults → paragraph ≡ [] → text ≡ [] → unstated ≡ defaults
  unfolding unstated
  nothing_stated paragraph text first_is second_is none nothing_is =
      ap₂ model_properties (ap (map named_attribute) (sym none ∙ first_is) ∙ paragraph_named defaults) (ap (map named_attribute) (sym nothing_is ∙ second_is) ∙ text_named defaults) ∙ properties_back defaults tabs ranges

  by_parts : (paragraph text : List Attr) → paragraph ≡ paragraph_attributes defaults → text ≡ text_attributes defaults → IsRound (held_of (round (properties paragraph_name paragraph ++ properties text_name text)))
  by_parts [] [] one other = record { of_paragraphs = tt; value = nothing_stated [] [] one other refl refl; left = refl }
  by_parts [] (attr ∷ more) one other = one_round _ [] (ap₂ parts_held one other)
  by_parts (attr ∷ more) text one other = one_round _ (properties text_name text) (ap₂ parts_held one other)

  pub default_back : IsDefaultBack defaults
  default_back = let is : IsRound (default_read defaults) = by_parts (paragraph_attributes defaults) (text_attributes defaults) refl refl in record { of_paragraphs = is.of_paragraphs; value = is.value; left = is.left }
