-- What is read of elements that are kept, and what is left out in them.
use Rattle.std.specs.Prelude.{◌≡◌, List, [], map, Option, option_to_list}
use Rattle.std.specs.Option.{option_map_or}
use Rattle.std.specs.List.{flat_map}
use Rattle.doc_model.specs.declared.list_style.ListStyle.{ListStyle}
use Rattle.doc_model.specs.declared.page_layout.PageLayout.{PageLayout}
use Rattle.load_model.specs.declared.element.Element.{Element}
use Rattle.load_model.specs.declared.names.Tag.TheVariants as tag
use Rattle.load_model.specs.Left.{is, all_of}
use Rattle.load_model.specs.Styles.{name_of, layout_of, layout_part, layout_left, part_attributes, is_level, levels, list_left, outline_left}
use Rattle.element_parts.specs.Shown.{shown}
use Rattle.sheet_values.specs.declared.layouts.Layouts.{Layouts}
use Rattle.sheet_values.specs.declared.lists.ListStyles.{ListStyles}
use Rattle.sheet_values.specs.declared.lists.Outline.{Outline}

-- the page layout that an element is, if it has a name
abbrev pub layouts_in : Element → List PageLayout
layouts_in element = map (λ name. layout_of name (part_attributes (layout_part element))) (option_to_list (name_of element))

-- the page layouts of elements were read
pub record LayoutsAre (read : Layouts) (kept : List Element) : Type 0 where
  pub layouts_are : read.layouts ≡ flat_map layouts_in kept
  pub left_is : read.left ≡ shown (all_of (map layout_left kept))

-- the list style that an element is, if it has a name
abbrev pub styles_in : Element → List ListStyle
styles_in element = map (λ name. record { name = name; levels = levels is_level element }) (option_to_list (name_of element))

-- the list styles of elements were read
pub record ListStylesAre (read : ListStyles) (kept : List Element) : Type 0 where
  pub styles_are : read.styles ≡ flat_map styles_in kept
  pub left_is : read.left ≡ shown (all_of (map list_left kept))

-- the outline of an element was read, or that of a file without one
pub record OutlineIs (read : Outline) (kept : Option Element) : Type 0 where
  pub style_is : read.style ≡ record { name = []; levels = option_map_or (levels (is tag.OutlineLevel)) kept [] }
  pub left_is : read.left ≡ shown (all_of (map outline_left (option_to_list kept)))
