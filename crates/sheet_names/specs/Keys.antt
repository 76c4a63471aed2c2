-- Styles that are kept by their families and names.
use Rattle.std.specs.Prelude.{◌≡◌, ◌&&◌, Bool, List, map, filter, chars, Some, is_some}
use Rattle.std.specs.List.{flat_map}
use Rattle.doc_model.specs.declared.style.Family.{Family}
use Rattle.load_model.specs.declared.element.Element.{Element}
use Rattle.load_model.specs.declared.names.Tag.TheVariants as tag
use Rattle.load_model.specs.Left.{is, firsts}
use Rattle.load_model.specs.Styles.{InPart, StyleName, family_of, name_of, style_name, have_same_family, have_same_name}
use Rattle.sheet_kept.specs.Held.{seen}
use Rattle.sheet_names.specs.declared.family.StyleKey.{StyleKey}
use Rattle.sheet_names.specs.declared.kept_styles.KeptStyles.{KeptStyles}
use Rattle.sheet_names.specs.Known.{of_family, names_with}

-- an element states this family and name
pub record States (key : StyleKey) (element : Element) : Type 0 where
  pub family_is : family_of element ≡ Some key.family
  pub name_is : name_of element ≡ Some (chars key.name.now)

-- whether an element is a style with a family and a name
abbrev pub is_style : InPart → Bool
is_style in_part = is tag.Style in_part.element && is_some (family_of in_part.element) && is_some (name_of in_part.element)

-- whether two styles have the same family and name
abbrev pub same_style : InPart → InPart → Bool
same_style one other = have_same_family one.element other.element && have_same_name one.element other.element

-- the styles that are kept of some elements: the first one of each family and name
abbrev pub styles_among : List InPart → List InPart
styles_among held = firsts same_style (filter is_style held)

-- the names of some styles
abbrev pub names_among : List InPart → List StyleName
names_among styles = flat_map (λ in_part. style_name in_part.element) styles

-- those that are kept, with their names
pub record KeepsStyles (held : List InPart) (kept : KeptStyles) : Type 0 where
  pub styles_are : map seen kept.styles.items ≡ styles_among held
  pub names_are : (of : Family) → of_family kept.names of ≡ names_with of (names_among (styles_among held))
