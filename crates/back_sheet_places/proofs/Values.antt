-- The values of the style parts don't look at places.
use Rattle.std.proofs.Common.{◌≡◌, ℕ, ◌==◌, ◌&&◌, ◌||◌, not, Bool, false, cond, List, [], ◌∷◌, ◌++◌, map, filter, refl, ap, ap₂, ◌∙◌, Option, option_map, option_to_list, is_some}
use Rattle.std.specs.List.{flat_map}
use Rattle.std.specs.Option.{option_map_or}
use Rattle.doc_model.specs.declared.style.Family.{Family}
use Rattle.doc_model.specs.declared.style.Family.TheVariants as family
use Rattle.doc_model.specs.declared.style.Style.{Style}
use Rattle.doc_model.specs.declared.style.Props.{Props}
use Rattle.doc_model.specs.declared.list_style.ListStyle.{ListStyle}
use Rattle.doc_model.specs.declared.field.Format.TheVariants as format
use Rattle.doc_model.specs.declared.list_style.ListLevel.{ListLevel}
use Rattle.doc_model.specs.declared.list_style.LevelWhat.TheVariants.{Bullet, Number}
use Rattle.doc_model.specs.declared.page_layout.PageLayout.{PageLayout}
use Rattle.doc_model.specs.Empty.{unstated}
use Rattle.load_model.specs.declared.names.Key.TheVariants as key
use Rattle.load_model.specs.declared.names.Tag.TheVariants as tag
use Rattle.load_model.specs.declared.element.Element.{Element}
use Rattle.load_model.specs.declared.element.Attribute.{Attribute}
use Rattle.load_model.specs.Values as value
use Rattle.load_model.specs.Values.{stated, stated_or}
use Rattle.load_model.specs.Left.{children, attributes_of, is, firsts}
use Rattle.load_model.specs.Styles.{InPart, name_of, kept_styles, kept_default, kept_outline, kept_lists, kept_layouts, StyleName, Names, style_name, style_reference, master_reference, properties, paragraph_part, text_part, part_attributes, style_properties, style_of, style_in, styles, defaults, level_of, is_level, kept_levels, level_with, levels, list_styles, outline, layout_part, layout_of, layouts}
use Rattle.back_names.specs.Named.{placeless}
use Rattle.back_sheet_places.proofs.Bare.{attributes_bare, children_bare}
use Rattle.back_sheet_places.proofs.Kept.{bare_in, is_bare, first_child_bare, name_bare, kept_styles_bare, kept_lists_bare, kept_layouts_bare, kept_outline_bare, kept_default_bare, style_name_bare}
use Rattle.back_sheet_places.proofs.Lists.{filtered, firsts_changed, or_otherwise, mapped, joined}

-- a part, if it is there
pub paragraph_part_bare : (of : Family) (element : Element) → paragraph_part of (placeless element) ≡ option_map placeless (paragraph_part of element)
paragraph_part_bare family.Paragraph element = first_child_bare tag.ParagraphProperties element
paragraph_part_bare family.Text element = refl
paragraph_part_bare family.Section element = refl

pub text_part_bare : (element : Element) → text_part (placeless element) ≡ option_map placeless (text_part element)
text_part_bare element = first_child_bare tag.TextProperties element

part_attributes_bare : (bare part : Option Element) → bare ≡ option_map placeless part → part_attributes bare ≡ part_attributes part
part_attributes_bare bare part e = ap part_attributes e ∙ or_otherwise placeless attributes_of attributes_of [] attributes_bare part

stated_bare : (of : Family) (element : Element)
    → properties (part_attributes (paragraph_part of (placeless element))) (part_attributes (text_part (placeless element))) ≡ properties (part_attributes (paragraph_part of element)) (part_attributes (text_part element))
stated_bare of element =
    ap₂ properties (part_attributes_bare (paragraph_part of (placeless element)) (paragraph_part of element) (paragraph_part_bare of element))
    (part_attributes_bare (text_part (placeless element)) (text_part element) (text_part_bare element))

pub properties_bare : (of : Family) (element : Element) → style_properties of (placeless element) ≡ style_properties of element
properties_bare family.Section element = refl
properties_bare family.Paragraph element = stated_bare family.Paragraph element
properties_bare family.Text element = stated_bare family.Text element

-- a style by its attributes and properties
abbrev style_with : Names → Bool → Family → List ℕ → List Attribute → Props → Style
style_with names auto of name attributes props = record {
  family = of;
  name = name;
  auto = auto;
  parent = stated_or key.Parent (style_reference names of) [] attributes;
  next = stated_or key.Next (style_reference names of) [] attributes;
  master = stated key.Master (master_reference names) attributes;
  outline = stated_or key.DefaultOutlineLevel value.level 0 attributes;
  props = props;
}

style_bare : (names : Names) (auto : Bool) (of : Family) (name : List ℕ) (element : Element) → style_of names auto of name (placeless element) ≡ style_of names auto of name element
style_bare names auto of name element = ap₂ (style_with names auto of name) (attributes_bare element) (properties_bare of element)

pub style_in_bare : (names : Names) (in_part : InPart) → style_in names (bare_in in_part) ≡ style_in names in_part
style_in_bare names in_part =
    ap (map (λ style. style_of names in_part.auto style.family style.name (placeless in_part.element))) (style_name_bare in_part.element) ∙ each_same (style_name in_part.element)
  where
    each_same : (own : List StyleName) → map (λ style. style_of names in_part.auto style.family style.name (placeless in_part.element)) own ≡ map (λ style. style_of names in_part.auto style.family style.name in_part.element) own
    each_same [] = refl
    each_same (style ∷ more) = ap₂ (λ (one : Style) (others : List Style). one ∷ others) (style_bare names in_part.auto style.family style.name in_part.element) (each_same more)

pub styles_bare : (names : Names) (root : Element) → styles names (placeless root) ≡ styles names root
styles_bare names root = ap₂ (λ (one other : List Style). one ++ other) (some_bare (λ in_part. not in_part.auto) (λ in_part. refl)) (some_bare (λ in_part. in_part.auto) (λ in_part. refl)) where
  some_bare : (test : InPart → Bool) → ((in_part : InPart) → test (bare_in in_part) ≡ test in_part) → flat_map (style_in names) (filter test (kept_styles (placeless root))) ≡ flat_map (style_in names) (filter test (kept_styles root))
  some_bare test e =
      ap (λ (kept : List InPart). flat_map (style_in names) (filter test kept)) (kept_styles_bare root)
      ∙ ap (flat_map (style_in names)) (filtered bare_in test test e (kept_styles root))
      ∙ joined bare_in (style_in names) (style_in names) (style_in_bare names) (filter test (kept_styles root))

pub defaults_bare : (root : Element) → defaults (placeless root) ≡ defaults root
defaults_bare root =
    ap (λ (kept : Option Element). option_map_or (style_properties family.Paragraph) kept unstated) (kept_default_bare root)
    ∙ or_otherwise placeless (style_properties family.Paragraph) (style_properties family.Paragraph) unstated (properties_bare family.Paragraph) (kept_default root)

-- levels of list styles
level_bare : (element : Element) → level_of (placeless element) ≡ level_of element
level_bare element = ap (stated key.Level value.level) (attributes_bare element)

pub is_level_bare : (element : Element) → is_level (placeless element) ≡ is_level element
is_level_bare element =
    ap₂ (λ (numbers labels : Bool). numbers || labels) (is_bare tag.NumberLevel element)
    (ap₂ (λ (labels : Bool) (attributes : List Attribute). labels && is_some (stated key.BulletChar value.one_character attributes)) (is_bare tag.BulletLevel element) (attributes_bare element))

abbrev has_level : ℕ → Element → Bool
has_level level element = option_map_or (λ given. given == level) (level_of element) false

has_level_bare : (level : ℕ) (element : Element) → has_level level (placeless element) ≡ has_level level element
has_level_bare level element = ap (λ (given : Option ℕ). option_map_or (λ one. one == level) given false) (level_bare element)

abbrev same_level : Element → Element → Bool
same_level one other = option_map_or (λ level. has_level level other) (level_of one) false

same_level_bare : (one other : Element) → same_level (placeless one) (placeless other) ≡ same_level one other
same_level_bare one other =
    ap₂ (λ (own others : Option ℕ). option_map_or (λ level. option_map_or (λ given. given == level) others false) own false) (level_bare one) (level_bare other)

-- a level by whether it is a bullet, and its attributes
abbrev level_by : ℕ → Bool → List Attribute → ListLevel
level_by level is_bullet attributes =
    cond is_bullet (record { level = level; what = Bullet (stated_or key.BulletChar value.one_character 0 attributes) })
    (record { level = level; what = Number (stated_or key.NumberFormat value.number_format format.Empty attributes) (stated_or key.NumberPrefix value.any_text [] attributes) (stated_or key.NumberSuffix value.any_text [] attributes) (stated_or key.StartValue (value.number 0 65535) 1 attributes) (stated_or key.DisplayLevels value.level 1 attributes) })

level_with_bare : (level : ℕ) (element : Element) → level_with level (placeless element) ≡ level_with level element
level_with_bare level element = ap₂ (level_by level) (is_bare tag.BulletLevel element) (attributes_bare element)

module _ (of_kind : Element → Bool) (kind_bare : (element : Element) → of_kind (placeless element) ≡ of_kind element) where
  pub kept_levels_bare : (list : Element) → kept_levels of_kind (placeless list) ≡ map placeless (kept_levels of_kind list)
  kept_levels_bare list =
      ap (λ (elements : List Element). firsts same_level (filter test elements)) (children_bare list)
      ∙ ap (firsts same_level) (filtered placeless test test (λ element. ap₂ (λ (of : Bool) (level : Option ℕ). of && is_some level) (kind_bare element) (level_bare element)) (children list))
      ∙ firsts_changed placeless same_level same_level same_level_bare (filter test (children list))
    where
      test : Element → Bool
      test element = of_kind element && is_some (level_of element)

  pub levels_bare : (list : Element) → levels of_kind (placeless list) ≡ levels of_kind list
  levels_bare list = each_same (1 ∷ 2 ∷ 3 ∷ 4 ∷ 5 ∷ 6 ∷ 7 ∷ 8 ∷ 9 ∷ 10 ∷ []) where
    each_same : (numbers : List ℕ)
        → flat_map (λ level. map (level_with level) (filter (has_level level) (kept_levels of_kind (placeless list)))) numbers ≡ flat_map (λ level. map (level_with level) (filter (has_level level) (kept_levels of_kind list))) numbers
    each_same [] = refl
    each_same (level ∷ more) =
        ap₂ (λ (one others : List ListLevel). one ++ others)
        (ap (λ (kept : List Element). map (level_with level) (filter (has_level level) kept)) (kept_levels_bare list)
        ∙ ap (map (level_with level)) (filtered placeless (has_level level) (has_level level) (has_level_bare level) (kept_levels of_kind list))
        ∙ mapped placeless (level_with level) (level_with level) (level_with_bare level) (filter (has_level level) (kept_levels of_kind list)))
        (each_same more)

pub lists_bare : (root : Element) → list_styles (placeless root) ≡ list_styles root
lists_bare root = ap (flat_map list_of) (kept_lists_bare root) ∙ joined placeless list_of list_of list_bare (kept_lists root) where
  list_of : Element → List ListStyle
  list_of element = map (λ name. record { name = name; levels = levels is_level element }) (option_to_list (name_of element))

  list_bare : (element : Element) → list_of (placeless element) ≡ list_of element
  list_bare element =
      ap₂ (λ (name : Option (List ℕ)) (held : List ListLevel). map (λ text. record { name = text; levels = held }) (option_to_list name)) (name_bare element) (levels_bare is_level is_level_bare element)

pub outline_bare : (root : Element) → outline (placeless root) ≡ outline root
outline_bare root =
    ap (λ (held : List ListLevel). record { name = []; levels = held })
    (ap (λ (kept : Option Element). option_map_or (levels (is tag.OutlineLevel)) kept []) (kept_outline_bare root)
    ∙ or_otherwise placeless (levels (is tag.OutlineLevel)) (levels (is tag.OutlineLevel)) [] (levels_bare (is tag.OutlineLevel) (is_bare tag.OutlineLevel)) (kept_outline root))

pub layout_part_bare : (element : Element) → layout_part (placeless element) ≡ option_map placeless (layout_part element)
layout_part_bare element = first_child_bare tag.PageLayoutProperties element

pub layouts_bare : (root : Element) → layouts (placeless root) ≡ layouts root
layouts_bare root = ap (flat_map layout_in) (kept_layouts_bare root) ∙ joined placeless layout_in layout_in layout_bare (kept_layouts root) where
  layout_in : Element → List PageLayout
  layout_in element = map (λ name. layout_of name (part_attributes (layout_part element))) (option_to_list (name_of element))

  layout_bare : (element : Element) → layout_in (placeless element) ≡ layout_in element
  layout_bare element =
      ap₂ (λ (name : Option (List ℕ)) (attributes : List Attribute). map (λ text. layout_of text attributes) (option_to_list name)) (name_bare element)
      (part_attributes_bare (layout_part (placeless element)) (layout_part element) (layout_part_bare element))
