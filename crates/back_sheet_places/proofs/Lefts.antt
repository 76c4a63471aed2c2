-- What is left out in the style parts doesn't look at places.
use Rattle.std.proofs.Common.{◌≡◌, ℕ, ◌+◌, ◌-◌, Bool, cond, List, [], ◌∷◌, map, length, refl, ap, ap₂, ◌∙◌, Option, option_map, option_to_list}
use Rattle.std.proofs.lemmas.List.{length-map}
use Rattle.doc_model.specs.declared.style.Family.{Family}
use Rattle.doc_model.specs.declared.style.Family.TheVariants as family
use Rattle.load_model.specs.declared.names.Key.TheVariants as key
use Rattle.load_model.specs.declared.names.Tag.TheVariants as tag
use Rattle.load_model.specs.declared.element.Element.{Element}
use Rattle.load_model.specs.declared.element.Attribute.{Attribute}
use Rattle.load_model.specs.Values as value
use Rattle.load_model.specs.Values.{Rule, rule, attributes_left}
use Rattle.load_model.specs.Left.{Left, nothing, only_elements, only_attributes, both, all_of, all_but, leaf_left, children, attributes_of, is}
use Rattle.load_model.specs.Styles.{InPart, Names, StyleName, style_parts, in_parts, kept_styles, kept_default, kept_outline, kept_lists, kept_layouts, paragraph_rules, paragraph_part, text_part, text_rules, part_left, properties_left, style_name, style_rules, style_left, default_left, is_level, level_rules, kept_levels, levels_left, list_left, outline_left, layout_rules, layout_part, layout_left, read_in_parts, style_parts_left}
use Rattle.back_names.specs.Named.{placeless}
use Rattle.back_sheet_places.proofs.Bare.{attributes_bare, children_bare}
use Rattle.back_sheet_places.proofs.Kept.{bare_in, is_bare, element_in, elements_bare, parts_bare, kept_styles_bare, kept_lists_bare, kept_layouts_bare, kept_outline_bare, kept_default_bare, style_name_bare}
use Rattle.back_sheet_places.proofs.Lists.{listed, or_otherwise, mapped, next, last}
use Rattle.back_sheet_places.proofs.Values.{paragraph_part_bare, text_part_bare, is_level_bare, kept_levels_bare, layout_part_bare}

-- how many there are
pub count_bare : (bare elements : List Element) → bare ≡ map placeless elements → length bare ≡ length elements
count_bare bare elements e = ap length e ∙ length-map elements placeless

pub children_count : (element : Element) → length (children (placeless element)) ≡ length (children element)
children_count element = count_bare (children (placeless element)) (children element) (children_bare element)

pub option_count : (bare part : Option Element) → bare ≡ option_map placeless part → length (option_to_list bare) ≡ length (option_to_list part)
option_count bare part e = ap (λ (one : Option Element). length (option_to_list one)) e ∙ count_bare (option_to_list (option_map placeless part)) (option_to_list part) (listed placeless part)

-- what is left out in each
pub all_bare : (left plain : Element → Left) → ((element : Element) → left (placeless element) ≡ plain element) → (bare elements : List Element) → bare ≡ map placeless elements → all_of (map left bare) ≡ all_of (map plain elements)
all_bare left plain e bare elements same = ap (λ (held : List Element). all_of (map left held)) same ∙ ap all_of (mapped placeless left plain e elements)

pub option_all : (left : Element → Left) → ((element : Element) → left (placeless element) ≡ left element) → (bare part : Option Element) → bare ≡ option_map placeless part → all_of (map left (option_to_list bare)) ≡ all_of (map left (option_to_list part))
option_all left e bare part same = all_bare left left e (option_to_list bare) (option_to_list part) (ap option_to_list same ∙ listed placeless part)

-- attributes that are left out by some rules
pub attributes_left_bare : (rules : List Rule) (element : Element) → only_attributes (attributes_left rules (attributes_of (placeless element))) ≡ only_attributes (attributes_left rules (attributes_of element))
attributes_left_bare rules element = ap (λ (attributes : List Attribute). only_attributes (attributes_left rules attributes)) (attributes_bare element)

-- all elements but so many
pub others_bare : (read other : ℕ) (element : Element) → read ≡ other → all_but read (children (placeless element)) ≡ all_but other (children element)
others_bare read other element e = ap₂ (λ (count all : ℕ). only_elements (all - count)) e (children_count element)

part_left_bare : (rules : List Rule) (bare part : Option Element) → bare ≡ option_map placeless part → part_left rules bare ≡ part_left rules part
part_left_bare rules bare part e =
    ap (part_left rules) e
    ∙ or_otherwise placeless left left nothing (λ element. ap₂ both (attributes_left_bare rules element) (others_bare 0 0 element refl)) part
  where
    left : Element → Left
    left element = both (only_attributes (attributes_left rules (attributes_of element))) (leaf_left element)

properties_left_bare : (of : Family) (element : Element) → properties_left of (placeless element) ≡ properties_left of element
properties_left_bare of element =
    let paragraph = paragraph_part_bare of element in
    let text = text_part_bare element in
    ap all_of
    (next (others_bare (length (option_to_list (paragraph_part of (placeless element))) + length (option_to_list (text_part (placeless element)))) (length (option_to_list (paragraph_part of element)) + length (option_to_list (text_part element))) element
    (ap₂ (λ (one other : ℕ). one + other) (option_count (paragraph_part of (placeless element)) (paragraph_part of element) paragraph) (option_count (text_part (placeless element)) (text_part element) text)))
    (next (part_left_bare paragraph_rules (paragraph_part of (placeless element)) (paragraph_part of element) paragraph)
    (last (part_left_bare (text_rules of) (text_part (placeless element)) (text_part element) text))))

style_left_bare : (names : Names) (element : Element) → style_left names (placeless element) ≡ style_left names element
style_left_bare names element = ap (λ (own : List StyleName). all_of (map (left_in (placeless element)) own)) (style_name_bare element) ∙ ap all_of (each_same (style_name element)) where
  left_in : Element → StyleName → Left
  left_in one style = both (only_attributes (attributes_left (style_rules names style.family) (attributes_of one))) (properties_left style.family one)

  each_same : (own : List StyleName) → map (left_in (placeless element)) own ≡ map (left_in element) own
  each_same [] = refl
  each_same (style ∷ more) = next (ap₂ both (attributes_left_bare (style_rules names style.family) element) (properties_left_bare style.family element)) (each_same more)

default_left_bare : (element : Element) → default_left (placeless element) ≡ default_left element
default_left_bare element = ap₂ both (attributes_left_bare (rule key.Family value.family_of_text ∷ []) element) (properties_left_bare family.Paragraph element)

-- what is left out in a level
abbrev level_left : Element → Left
level_left element = both (only_attributes (attributes_left (level_rules element) (attributes_of element))) (leaf_left element)

abbrev rules_by : Bool → List Rule
rules_by is_bullet =
    cond is_bullet (rule key.Level value.level ∷ rule key.BulletChar value.one_character ∷ [])
    (rule key.Level value.level ∷ rule key.NumberFormat value.number_format ∷ rule key.NumberPrefix value.any_text ∷ rule key.NumberSuffix value.any_text
    ∷ rule key.StartValue (value.number 0 65535) ∷ rule key.DisplayLevels value.level ∷ [])

level_left_bare : (element : Element) → level_left (placeless element) ≡ level_left element
level_left_bare element =
    ap₂ both (ap₂ (λ (is_bullet : Bool) (attributes : List Attribute). only_attributes (attributes_left (rules_by is_bullet) attributes)) (is_bare tag.BulletLevel element) (attributes_bare element)) (others_bare 0 0 element refl)

levels_left_bare : (of_kind : Element → Bool) → ((element : Element) → of_kind (placeless element) ≡ of_kind element) → (list : Element) → levels_left of_kind (placeless list) ≡ levels_left of_kind list
levels_left_bare of_kind e list =
    let kept = kept_levels_bare of_kind e list in
    ap₂ both (others_bare (length (kept_levels of_kind (placeless list))) (length (kept_levels of_kind list)) list (count_bare (kept_levels of_kind (placeless list)) (kept_levels of_kind list) kept))
    (all_bare level_left level_left level_left_bare (kept_levels of_kind (placeless list)) (kept_levels of_kind list) kept)

list_left_bare : (element : Element) → list_left (placeless element) ≡ list_left element
list_left_bare element = ap₂ both (attributes_left_bare (rule key.Name value.name ∷ []) element) (levels_left_bare is_level is_level_bare element)

outline_left_bare : (element : Element) → outline_left (placeless element) ≡ outline_left element
outline_left_bare element = ap₂ both (attributes_left_bare [] element) (levels_left_bare (is tag.OutlineLevel) (is_bare tag.OutlineLevel) element)

layout_left_bare : (element : Element) → layout_left (placeless element) ≡ layout_left element
layout_left_bare element =
    let part = layout_part_bare element in
    ap all_of
    (next (attributes_left_bare (rule key.Name value.name ∷ []) element)
    (next (others_bare (length (option_to_list (layout_part (placeless element)))) (length (option_to_list (layout_part element))) element (option_count (layout_part (placeless element)) (layout_part element) part))
    (last (part_left_bare layout_rules (layout_part (placeless element)) (layout_part element) part))))

-- how many styles are kept
pub styles_count : (root : Element) → length (kept_styles (placeless root)) ≡ length (kept_styles root)
styles_count root = ap length (kept_styles_bare root) ∙ length-map (kept_styles root) bare_in

pub lists_count : (root : Element) → length (kept_lists (placeless root)) ≡ length (kept_lists root)
lists_count root = count_bare (kept_lists (placeless root)) (kept_lists root) (kept_lists_bare root)

pub layouts_count : (root : Element) → length (kept_layouts (placeless root)) ≡ length (kept_layouts root)
layouts_count root = count_bare (kept_layouts (placeless root)) (kept_layouts root) (kept_layouts_bare root)

read_bare : (root : Element) → read_in_parts (placeless root) ≡ read_in_parts root
read_bare root =
    add (add (add (add (styles_count root) (option_count (kept_default (placeless root)) (kept_default root) (kept_default_bare root))) (lists_count root))
    (option_count (kept_outline (placeless root)) (kept_outline root) (kept_outline_bare root))) (layouts_count root)
  where
    add : {a b c d : ℕ} → a ≡ b → c ≡ d → a + c ≡ b + d
    add e f = ap₂ (λ one other. one + other) e f

pub parts_left_bare : (names : Names) (root : Element) → style_parts_left names (placeless root) ≡ style_parts_left names root
parts_left_bare names root =
    ap all_of
    (next (all_bare (λ part. only_attributes (attributes_left [] (attributes_of part))) (λ part. only_attributes (attributes_left [] (attributes_of part))) (attributes_left_bare []) (style_parts (placeless root)) (style_parts root) (parts_bare root))
    (next (ap₂ (λ (count all : ℕ). only_elements (all - count)) (read_bare root) (count_bare (map element_in (in_parts (placeless root))) (map element_in (in_parts root)) (elements_bare root)))
    (next (ap (λ (held : List InPart). all_of (map style_in_left held)) (kept_styles_bare root) ∙ ap all_of (mapped bare_in style_in_left style_in_left (λ in_part. style_left_bare names in_part.element) (kept_styles root)))
    (next (option_all default_left default_left_bare (kept_default (placeless root)) (kept_default root) (kept_default_bare root))
    (next (all_bare list_left list_left list_left_bare (kept_lists (placeless root)) (kept_lists root) (kept_lists_bare root))
    (next (option_all outline_left outline_left_bare (kept_outline (placeless root)) (kept_outline root) (kept_outline_bare root))
    (last (all_bare layout_left layout_left layout_left_bare (kept_layouts (placeless root)) (kept_layouts root) (kept_layouts_bare root)))))))))
  where
    style_in_left : InPart → Left
    style_in_left in_part = style_left names in_part.element
