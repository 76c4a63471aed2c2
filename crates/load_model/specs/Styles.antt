-- Styles, list styles and page layouts as they are read. They stand in the two style parts of the root, in any order.
use Rattle.std.specs.Prelude.{ℕ, ℤ, ◌+◌, ◌==◌, ◌&&◌, ◌||◌, not, Bool, true, false, if◌then◌else◌, List, [], ◌∷◌, ◌++◌, map, filter, filter_map, length, Option, Some, None, option_to_list, is_some}
use Rattle.std.specs.Option.{option_map_or, option_or}
use Rattle.std.specs.List.{flat_map}
use Rattle.std.specs.Str.{bytes_eq}
use Rattle.doc_model.specs.declared.style.Family.{Family}
use Rattle.doc_model.specs.declared.style.Family.TheVariants as family
use Rattle.doc_model.specs.declared.style.Style.{Style}
use Rattle.doc_model.specs.declared.style.Props.{Props}
use Rattle.doc_model.specs.declared.field.Format.TheVariants as format
use Rattle.doc_model.specs.declared.list_style.ListStyle.{ListStyle}
use Rattle.doc_model.specs.declared.list_style.ListLevel.{ListLevel}
use Rattle.doc_model.specs.declared.list_style.LevelWhat.TheVariants.{Bullet, Number}
use Rattle.doc_model.specs.declared.page_layout.PageLayout.{PageLayout}
use Rattle.doc_model.specs.Empty.{unstated}
use Rattle.style_model.specs.Lineage.{is_same_family}
use Rattle.load_model.specs.declared.names.Key.{Key}
use Rattle.load_model.specs.declared.names.Key.TheVariants as key
use Rattle.load_model.specs.declared.names.Tag.TheVariants as tag
use Rattle.load_model.specs.declared.element.Element.{Element}
use Rattle.load_model.specs.declared.element.Attribute.{Attribute}
use Rattle.load_model.specs.Values as value
use Rattle.load_model.specs.Values.{Rule, rule, stated, stated_or, attributes_left}
use Rattle.load_model.specs.Left.{Left, nothing, only_attributes, both, all_of, all_but, leaf_left, children, attributes_of, tag_of, is_same_tag, is, first, firsts, is_one_of}

-- the style parts that are read, in the order of the file: the first one of each kind
abbrev pub style_parts : Element → List Element
style_parts root = firsts (λ one other. is_same_tag (tag_of one) (tag_of other)) (filter (λ part. is tag.CommonStyles part || is tag.AutomaticStyles part) (children root))

-- an element of a style part, and whether the part is that of automatic styles
pub record InPart : Type 0 where
  pub auto : Bool
  pub element : Element

-- what the style parts hold, in the order of the file
abbrev pub in_parts : Element → List InPart
in_parts root = flat_map (λ part. map (λ element. record { auto = is tag.AutomaticStyles part; element = element }) (children part)) (style_parts root)

-- the elements of the style parts that are of one kind
abbrev pub parts_of_kind : (Element → Bool) → Element → List Element
parts_of_kind of_kind root = filter of_kind (map (λ in_part. in_part.element) (in_parts root))

-- the family that a style states
abbrev pub family_of : Element → Option Family
family_of element = stated key.Family value.family_of_text (attributes_of element)

-- the name that a style, list style, layout or master states
abbrev pub name_of : Element → Option (List ℕ)
name_of element = stated key.Name value.name (attributes_of element)

-- whether two things both state a name, and the same one
abbrev pub have_same_name : Element → Element → Bool
have_same_name one other = option_map_or (λ name. option_map_or (bytes_eq name) (name_of other) false) (name_of one) false

-- whether two styles both state a family, and the same one
abbrev pub have_same_family : Element → Element → Bool
have_same_family one other = option_map_or (λ own. option_map_or (is_same_family own) (family_of other) false) (family_of one) false

-- those of some elements of a tag that have a name, the first of each
abbrev pub named : (Element → Bool) → List Element → List Element
named of_kind elements = firsts have_same_name (filter (λ element. of_kind element && is_some (name_of element)) elements)

-- the styles that are kept, in the order of the file: the first one of each family and name
abbrev pub kept_styles : Element → List InPart
kept_styles root = firsts same (filter (λ in_part. is tag.Style in_part.element && is_some (family_of in_part.element) && is_some (name_of in_part.element)) (in_parts root)) where
  same : InPart → InPart → Bool
  same one other = have_same_family one.element other.element && have_same_name one.element other.element

-- whether an element is a default style of paragraphs
abbrev pub is_default_style : Element → Bool
is_default_style element = is tag.DefaultStyle element && option_map_or (is_same_family family.Paragraph) (family_of element) false

-- the default style of paragraphs and the outline style: the first of the file
abbrev pub kept_default : Element → Option Element
kept_default root = first tag.DefaultStyle (parts_of_kind is_default_style root)

abbrev pub kept_outline : Element → Option Element
kept_outline root = first tag.OutlineStyle (parts_of_kind (λ element. true) root)

-- the list styles and page layouts that are kept: the first of each name
abbrev pub kept_lists : Element → List Element
kept_lists root = named (is tag.ListStyle) (parts_of_kind (λ element. true) root)

abbrev pub kept_layouts : Element → List Element
kept_layouts root = named (is tag.PageLayout) (parts_of_kind (λ element. true) root)

-- the masters that are kept: the first of each name in the part of masters, of which the first is read
abbrev pub masters_in : Element → List Element
masters_in root = option_map_or children (first tag.MasterStyles (children root)) []

abbrev pub kept_masters : Element → List Element
kept_masters root = named (is tag.MasterPage) (masters_in root)

-- the name of a style with its family
pub record StyleName : Type 0 where
  pub family : Family
  pub name : List ℕ

-- the names that can be referred to
pub record Names : Type 0 where
  pub styles : List StyleName
  pub lists : List (List ℕ)
  pub layouts : List (List ℕ)
  pub masters : List (List ℕ)

-- the family and name of a style
abbrev pub style_name : Element → List StyleName
style_name element = flat_map (λ of. map (λ name. record { family = of; name = name }) (option_to_list (name_of element))) (option_to_list (family_of element))

-- the names of a file. All names are resolved after the whole file is read, so these are known wherever one is referred to
abbrev pub names_of : Element → Names
names_of root = record {
  styles = flat_map (λ in_part. style_name in_part.element) (kept_styles root);
  lists = filter_map name_of (kept_lists root);
  layouts = filter_map name_of (kept_layouts root);
  masters = filter_map name_of (kept_masters root);
}

-- a reference to something whose name is there; any other is a bad value
abbrev pub reference : List (List ℕ) → List ℕ → Option (List ℕ)
reference names text = if is_one_of names text then Some text else None

-- a reference to a style of a family
abbrev pub style_reference : Names → Family → List ℕ → Option (List ℕ)
style_reference names of text = reference (map (λ style. style.name) (filter (λ style. is_same_family style.family of) names.styles)) text

-- the master that a style states: one that is there, or the empty text as a stated none
abbrev pub master_reference : Names → List ℕ → Option (List ℕ)
master_reference names text = if bytes_eq text [] then Some [] else reference names.masters text

-- a margin: its own attribute, or else that of all four
abbrev pub margin : Key → List Attribute → Option ℤ
margin side attributes = option_or (stated side value.length_value attributes) (stated key.Margin value.length_value attributes)

-- the rules of paragraph properties
abbrev pub paragraph_rules : List Rule
paragraph_rules =
    rule key.Margin value.length_value ∷ rule key.MarginLeft value.length_value ∷ rule key.MarginRight value.length_value
    ∷ rule key.MarginTop value.length_value ∷ rule key.MarginBottom value.length_value ∷ rule key.Indent value.length_value
    ∷ rule key.Align value.alignment ∷ rule key.BreakBefore value.break_at ∷ rule key.BreakAfter value.break_at
    ∷ rule key.KeepNext value.keep ∷ rule key.KeepTogether value.keep ∷ rule key.Widows value.line_count
    ∷ rule key.Orphans value.line_count ∷ rule key.PageNumber value.page_start ∷ []

-- the properties that attributes of paragraph properties and of text properties state
abbrev pub properties : List Attribute → List Attribute → Props
properties paragraph text = record {
  margin_left = margin key.MarginLeft paragraph;
  margin_right = margin key.MarginRight paragraph;
  margin_top = margin key.MarginTop paragraph;
  margin_bottom = margin key.MarginBottom paragraph;
  indent = stated key.Indent value.length_value paragraph;
  align = stated key.Align value.alignment paragraph;
  break_before = stated key.BreakBefore value.break_at paragraph;
  break_after = stated key.BreakAfter value.break_at paragraph;
  keep_next = stated key.KeepNext value.keep paragraph;
  keep_together = stated key.KeepTogether value.keep paragraph;
  widows = stated key.Widows value.line_count paragraph;
  orphans = stated key.Orphans value.line_count paragraph;
  page_number = stated key.PageNumber value.page_start paragraph;
  display = stated key.Display value.display text;
  tabs = None;
}

-- the paragraph properties of a style that are read: the first, in the family of paragraphs
abbrev pub paragraph_part : Family → Element → Option Element
paragraph_part family.Paragraph element = first tag.ParagraphProperties (children element)
paragraph_part _ element = None

-- the text properties of a style that are read: the first
abbrev pub text_part : Element → Option Element
text_part element = first tag.TextProperties (children element)

-- the rules of text properties: a section has none
abbrev pub text_rules : Family → List Rule
text_rules family.Section = []
text_rules _ = rule key.Display value.display ∷ []

-- the attributes of a part, if it is there
abbrev pub part_attributes : Option Element → List Attribute
part_attributes part = option_map_or attributes_of part []

-- the properties that a style of a family states
abbrev pub style_properties : Family → Element → Props
style_properties family.Section element = unstated
style_properties of element = properties (part_attributes (paragraph_part of element)) (part_attributes (text_part element))

-- what is left out in a part with these rules, if it is there: attributes, and all elements
abbrev pub part_left : List Rule → Option Element → Left
part_left rules part = option_map_or (λ element. both (only_attributes (attributes_left rules (attributes_of element))) (leaf_left element)) part nothing

-- what is left out in the properties of a style
abbrev pub properties_left : Family → Element → Left
properties_left of element =
    all_of (all_but (length (option_to_list (paragraph_part of element)) + length (option_to_list (text_part element))) (children element)
    ∷ part_left paragraph_rules (paragraph_part of element) ∷ part_left (text_rules of) (text_part element) ∷ [])

-- the rules of a style
abbrev pub style_rules : Names → Family → List Rule
style_rules names of =
    rule key.Name value.name ∷ rule key.Family value.family_of_text ∷ rule key.Parent (style_reference names of)
    ∷ rule key.Next (style_reference names of) ∷ rule key.Master (master_reference names) ∷ rule key.DefaultOutlineLevel value.level ∷ []

-- a style, with its family and name
abbrev pub style_of : Names → Bool → Family → List ℕ → Element → Style
style_of names auto of name element = record {
  family = of;
  name = name;
  auto = auto;
  parent = stated_or key.Parent (style_reference names of) [] (attributes_of element);
  next = stated_or key.Next (style_reference names of) [] (attributes_of element);
  master = stated key.Master (master_reference names) (attributes_of element);
  outline = stated_or key.DefaultOutlineLevel value.level 0 (attributes_of element);
  props = style_properties of element;
}

-- the style that an element of a style part is
abbrev pub style_in : Names → InPart → List Style
style_in names in_part = map (λ style. style_of names in_part.auto style.family style.name in_part.element) (style_name in_part.element)

-- what is left out in a style
abbrev pub style_left : Names → Element → Left
style_left names element = all_of (map (λ style. both (only_attributes (attributes_left (style_rules names style.family) (attributes_of element))) (properties_left style.family element)) (style_name element))

-- the styles: those that aren't automatic first, each in the order of the file
abbrev pub styles : Names → Element → List Style
styles names root = flat_map (style_in names) (filter (λ in_part. not in_part.auto) (kept_styles root)) ++ flat_map (style_in names) (filter (λ in_part. in_part.auto) (kept_styles root))

-- the properties of the default style
abbrev pub defaults : Element → Props
defaults root = option_map_or (style_properties family.Paragraph) (kept_default root) unstated

-- what is left out in it
abbrev pub default_left : Element → Left
default_left element = both (only_attributes (attributes_left (rule key.Family value.family_of_text ∷ []) (attributes_of element))) (properties_left family.Paragraph element)

-- the level that a level of a list style states
abbrev pub level_of : Element → Option ℕ
level_of element = stated key.Level value.level (attributes_of element)

-- whether a level of a list style can be read: a bullet needs its character
abbrev pub is_level : Element → Bool
is_level element = is tag.NumberLevel element || (is tag.BulletLevel element && is_some (stated key.BulletChar value.one_character (attributes_of element)))

-- the levels that are kept: the first of each number
abbrev pub kept_levels : (Element → Bool) → Element → List Element
kept_levels of_kind list = firsts same (filter (λ element. of_kind element && is_some (level_of element)) (children list)) where
  same : Element → Element → Bool
  same one other = option_map_or (λ level. option_map_or (λ given. given == level) (level_of other) false) (level_of one) false

-- what a level is, of this number
abbrev pub level_with : ℕ → Element → ListLevel
level_with level element = if is tag.BulletLevel element then bullet else numbered where
  bullet : ListLevel
  bullet = record { level = level; what = Bullet (stated_or key.BulletChar value.one_character 0 (attributes_of element)) }

  numbered : ListLevel
  numbered = record { level = level; what = Number (stated_or key.NumberFormat value.number_format format.Empty (attributes_of element)) (stated_or key.NumberPrefix value.any_text [] (attributes_of element)) (stated_or key.NumberSuffix value.any_text [] (attributes_of element)) (stated_or key.StartValue (value.number 0 65535) 1 (attributes_of element)) (stated_or key.DisplayLevels value.level 1 (attributes_of element)) }

-- the rules of a level
abbrev pub level_rules : Element → List Rule
level_rules element =
    if is tag.BulletLevel element
    then rule key.Level value.level ∷ rule key.BulletChar value.one_character ∷ []
    else rule key.Level value.level ∷ rule key.NumberFormat value.number_format ∷ rule key.NumberPrefix value.any_text ∷ rule key.NumberSuffix value.any_text
    ∷ rule key.StartValue (value.number 0 65535) ∷ rule key.DisplayLevels value.level ∷ []

-- the levels of a list style in ascending order
abbrev pub levels : (Element → Bool) → Element → List ListLevel
levels of_kind list = flat_map (λ level. map (level_with level) (filter (λ element. option_map_or (λ given. given == level) (level_of element) false) (kept_levels of_kind list))) (1 ∷ 2 ∷ 3 ∷ 4 ∷ 5 ∷ 6 ∷ 7 ∷ 8 ∷ 9 ∷ 10 ∷ [])

-- what is left out in the levels of a list style
abbrev pub levels_left : (Element → Bool) → Element → Left
levels_left of_kind list = both (all_but (length (kept_levels of_kind list)) (children list)) (all_of (map (λ element. both (only_attributes (attributes_left (level_rules element) (attributes_of element))) (leaf_left element)) (kept_levels of_kind list)))

-- the list styles
abbrev pub list_styles : Element → List ListStyle
list_styles root = flat_map (λ element. map (λ name. record { name = name; levels = levels is_level element }) (option_to_list (name_of element))) (kept_lists root)

-- what is left out in a list style, and in the outline style, of whose attributes none has a rule
abbrev pub list_left : Element → Left
list_left element = both (only_attributes (attributes_left (rule key.Name value.name ∷ []) (attributes_of element))) (levels_left is_level element)

abbrev pub outline_left : Element → Left
outline_left element = both (only_attributes (attributes_left [] (attributes_of element))) (levels_left (is tag.OutlineLevel) element)

-- the outline
abbrev pub outline : Element → ListStyle
outline root = record { name = []; levels = option_map_or (levels (is tag.OutlineLevel)) (kept_outline root) [] }

-- the rules of the dimensions of a page
abbrev pub layout_rules : List Rule
layout_rules =
    rule key.PageWidth value.length_value ∷ rule key.PageHeight value.length_value ∷ rule key.Margin value.length_value ∷ rule key.MarginLeft value.length_value
    ∷ rule key.MarginRight value.length_value ∷ rule key.MarginTop value.length_value ∷ rule key.MarginBottom value.length_value ∷ []

-- the dimensions of a layout: the first
abbrev pub layout_part : Element → Option Element
layout_part element = first tag.PageLayoutProperties (children element)

-- a page layout of a name, by the attributes of its dimensions
abbrev pub layout_of : List ℕ → List Attribute → PageLayout
layout_of name attributes = record {
  name = name;
  width = stated key.PageWidth value.length_value attributes;
  height = stated key.PageHeight value.length_value attributes;
  left = margin key.MarginLeft attributes;
  right = margin key.MarginRight attributes;
  top = margin key.MarginTop attributes;
  bottom = margin key.MarginBottom attributes;
}

-- the page layouts
abbrev pub layouts : Element → List PageLayout
layouts root = flat_map (λ element. map (λ name. layout_of name (part_attributes (layout_part element))) (option_to_list (name_of element))) (kept_layouts root)

-- what is left out in a page layout
abbrev pub layout_left : Element → Left
layout_left element =
    all_of (only_attributes (attributes_left (rule key.Name value.name ∷ []) (attributes_of element))
    ∷ all_but (length (option_to_list (layout_part element))) (children element)
    ∷ part_left layout_rules (layout_part element) ∷ [])

-- how many elements of the style parts are read
abbrev pub read_in_parts : Element → ℕ
read_in_parts root = length (kept_styles root) + length (option_to_list (kept_default root)) + length (kept_lists root) + length (option_to_list (kept_outline root)) + length (kept_layouts root)

-- what is left out in the style parts: attributes of the parts, which have no rule, elements that aren't read, and what is left out in those that are
abbrev pub style_parts_left : Names → Element → Left
style_parts_left names root =
    all_of (all_of (map (λ part. only_attributes (attributes_left [] (attributes_of part))) (style_parts root))
    ∷ all_but (read_in_parts root) (map (λ in_part. in_part.element) (in_parts root))
    ∷ all_of (map (λ in_part. style_left names in_part.element) (kept_styles root))
    ∷ all_of (map default_left (option_to_list (kept_default root)))
    ∷ all_of (map list_left (kept_lists root))
    ∷ all_of (map outline_left (option_to_list (kept_outline root)))
    ∷ all_of (map layout_left (kept_layouts root)) ∷ [])
