-- The first elements of each name, with the names.
use Rattle.std.specs.Prelude.{◌≡◌, List, map}
use Rattle.std.specs.List.{filter_map}
use Rattle.load_model.specs.declared.element.Element.{Element}
use Rattle.load_model.specs.declared.names.Tag.{Tag}
use Rattle.load_model.specs.Left.{is}
use Rattle.load_model.specs.Styles.{name_of, named}
use Rattle.sheet_kept.specs.declared.named.Named.{Named}

-- those of a tag that are kept of some elements: the first of each name, and the names of these
pub record Keeps (of_tag : Tag) (elements : List Element) (kept : Named) : Type 0 where
  pub elements_are : map (λ element. element.now) kept.elements.items ≡ named (is of_tag) elements
  pub names_are : kept.names ≡ filter_map name_of (named (is of_tag) elements)
