-- Styles that can be read back.
use Rattle.std.specs.Prelude.{◌≡◌, ◌≤◌, true, List, map, Some, option_to_list}
use Rattle.std.specs.List.{AllByRecursion as Each}
use Rattle.std.specs.Option.{option_map_or}
use Rattle.doc_model.specs.declared.style.Family.TheVariants as family
use Rattle.doc_model.specs.declared.style.PageStart.{PageStart}
use Rattle.doc_model.specs.declared.style.PageStart.TheVariants as start
use Rattle.doc_model.specs.declared.style.Style.{Style}
use Rattle.doc_model.specs.declared.style.Props.{Props}
use Rattle.doc_model.specs.Empty.{unstated}
use Rattle.doc_model.specs.Ranges.{IsLength}
use Rattle.doc_model.specs.Valid.{AreOf, StatesNoTabs}
use Rattle.load_model.specs.declared.names.Tag.TheVariants as tag
use Rattle.load_model.specs.declared.element.Element.{Element}
use Rattle.load_model.specs.Left.{nothing, all_of, first}
use Rattle.load_model.specs.Styles.{Names, style_reference, master_reference, family_of, name_of, is_default_style, style_properties, style_of, style_left, default_left}
use Rattle.written_model.specs.Styles.{style_element, default_style}
use Rattle.back_fields.specs.Fit.{IsName}
use Rattle.back_paragraphs.specs.Paragraphs.{IsNoneOrGood}
use Rattle.back_styles.specs.Shown.{shown, held_of}

-- a page number that is stated has 16 bits
abbrev pub IsStart : PageStart → Type 0
IsStart start.Auto = Unit {0}
IsStart (start.At number) = number ≤ 65535

-- the lengths, counts of lines and page numbers of properties are in the ranges of their types
pub record AreInRange (props : Props) : Type 0 where
  pub margin_left : Each IsLength (option_to_list props.margin_left)
  pub margin_right : Each IsLength (option_to_list props.margin_right)
  pub margin_top : Each IsLength (option_to_list props.margin_top)
  pub margin_bottom : Each IsLength (option_to_list props.margin_bottom)
  pub indent : Each IsLength (option_to_list props.indent)
  pub widows : Each (λ lines. lines ≤ 255) (option_to_list props.widows)
  pub orphans : Each (λ lines. lines ≤ 255) (option_to_list props.orphans)
  pub page_number : Each IsStart (option_to_list props.page_number)

-- a style with a name, whose references are good as they are read, and which states what its family has
pub record IsReadableStyle (names : Names) (style : Style) : Type 0 where
  pub name : IsName style.name
  pub parent : IsNoneOrGood (style_reference names style.family) style.parent
  pub next : IsNoneOrGood (style_reference names style.family) style.next
  pub master : Each (λ name. master_reference names name ≡ Some name) (option_to_list style.master)
  pub outline : style.outline ≤ 10
  pub properties : AreOf style.family style.props
  pub tabs : StatesNoTabs style.props
  pub ranges : AreInRange style.props

-- a style as it is written, named
abbrev pub style_read : Style → Element
style_read style = shown (style_element style)

-- the default style, where it is written
abbrev pub default_read : Props → List Element
default_read defaults = held_of (default_style defaults)

-- a style is read as itself, and nothing is left out
pub record IsStyleBack (names : Names) (style : Style) : Type 0 where
  pub family : family_of (style_read style) ≡ Some style.family
  pub name : name_of (style_read style) ≡ Some style.name
  pub value : style_of names style.auto style.family style.name (style_read style) ≡ style
  pub left : style_left names (style_read style) ≡ nothing

-- the default style is read as one of paragraphs with its properties, and nothing is left out
pub record IsDefaultBack (defaults : Props) : Type 0 where
  pub of_paragraphs : Each (λ element. is_default_style element ≡ true) (default_read defaults)
  pub value : option_map_or (style_properties family.Paragraph) (first tag.DefaultStyle (default_read defaults)) unstated ≡ defaults
  pub left : all_of (map default_left (option_to_list (first tag.DefaultStyle (default_read defaults)))) ≡ nothing
