-- The style parts and masters of a written document, which can be read back.
use Rattle.std.specs.Prelude.{map}
use Rattle.std.specs.List.{AllByRecursion as Each}
use Rattle.doc_model.specs.declared.document.Document.{Document}
use Rattle.load_model.specs.declared.element.Element.{Element}
use Rattle.load_model.specs.Styles.{Names}
use Rattle.written_model.specs.Written.{text_element, written}
use Rattle.back_names.specs.Named.{named}
use Rattle.back_masters.specs.Masters.{IsMasterBack}
use Rattle.back_lists.specs.Lists.{IsInRange as IsLevelInRange, IsListBack, IsOutlineBack}
use Rattle.back_sheets.specs.Layouts.{HasLengths, IsLayoutBack}
use Rattle.back_styles.specs.Shown.{shown}
use Rattle.back_styles.specs.Styles.{AreInRange as AreProps, IsStyleBack, IsDefaultBack}

-- the root that a document is written as, named, and its text
abbrev pub root_read : Document → Element
root_read doc = named (written doc)

abbrev pub text_read : Document → Element
text_read doc = shown (text_element doc)

-- the names of the styles, lists, layouts and masters of a document
abbrev pub names_in : Document → Names
names_in doc = record {
  styles = map (λ style. record { family = style.family; name = style.name }) doc.styles;
  lists = map (λ list. list.name) doc.lists;
  layouts = map (λ layout. layout.name) doc.layouts;
  masters = map (λ master. master.name) doc.masters;
}

-- each style, list style, layout and master of a document is read as itself, and so are the default style and the outline
pub record AreBack (doc : Document) : Type 0 where
  pub styles : Each (IsStyleBack (names_in doc)) doc.styles
  pub defaults : IsDefaultBack doc.defaults
  pub lists : Each IsListBack doc.lists
  pub outline : IsOutlineBack doc.outline
  pub layouts : Each IsLayoutBack doc.layouts
  pub masters : Each (IsMasterBack (names_in doc)) doc.masters

-- the numbers of styles, list styles and layouts are in the ranges of their types
pub record AreStylesInRange (doc : Document) : Type 0 where
  pub styles : Each (λ style. AreProps style.props) doc.styles
  pub defaults : AreProps doc.defaults
  pub lists : Each (λ list. Each IsLevelInRange list.levels) doc.lists
  pub outline : Each IsLevelInRange doc.outline.levels
  pub layouts : Each HasLengths doc.layouts
