-- Page layouts that can be read back.
use Rattle.std.specs.Prelude.{◌≡◌, Some, option_to_list}
use Rattle.std.specs.List.{AllByRecursion as Each}
use Rattle.doc_model.specs.declared.page_layout.PageLayout.{PageLayout}
use Rattle.doc_model.specs.Ranges.{IsLength}
use Rattle.load_model.specs.declared.element.Element.{Element}
use Rattle.load_model.specs.Left.{nothing}
use Rattle.load_model.specs.Styles.{name_of, layout_part, layout_of, part_attributes, layout_left}
use Rattle.written_model.specs.Styles.{layout_element}
use Rattle.back_fields.specs.Fit.{IsName}
use Rattle.back_styles.specs.Shown.{shown}

-- the dimensions of a page layout are lengths
pub record HasLengths (layout : PageLayout) : Type 0 where
  pub width : Each IsLength (option_to_list layout.width)
  pub height : Each IsLength (option_to_list layout.height)
  pub left : Each IsLength (option_to_list layout.left)
  pub right : Each IsLength (option_to_list layout.right)
  pub top : Each IsLength (option_to_list layout.top)
  pub bottom : Each IsLength (option_to_list layout.bottom)

-- a page layout with a name, whose dimensions are lengths
pub record IsReadableLayout (layout : PageLayout) : Type 0 where
  pub name : IsName layout.name
  pub lengths : HasLengths layout

-- a page layout as it is written, named
abbrev pub layout_read : PageLayout → Element
layout_read layout = shown (layout_element layout)

-- a page layout is read as itself, and nothing is left out
pub record IsLayoutBack (layout : PageLayout) : Type 0 where
  pub name : name_of (layout_read layout) ≡ Some layout.name
  pub value : layout_of layout.name (part_attributes (layout_part (layout_read layout))) ≡ layout
  pub left : layout_left (layout_read layout) ≡ nothing
