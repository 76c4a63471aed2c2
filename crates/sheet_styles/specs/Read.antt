-- What the style parts say, by what is read of them.
use Rattle.std.specs.Prelude.{◌≡◌, Bool, true, false, not, List, ◌++◌, map, filter}
use Rattle.std.specs.List.{flat_map}
use Rattle.doc_model.specs.declared.style.Style.{Style}
use Rattle.load_model.specs.declared.element.Element.{Element}
use Rattle.load_model.specs.Left.{Left, all_of}
use Rattle.load_model.specs.Styles as styles
use Rattle.load_model.specs.Styles.{InPart, style_name, names_of}
use Rattle.element_parts.specs.Shown.{shown}
use Rattle.sheet_names.specs.Known.{of_family}
use Rattle.sheet_names.specs.declared.names.Names.{Names}
use Rattle.sheet_styles.specs.Rules.{style_by, left_by}
use Rattle.sheet_styles.specs.declared.styles.ReadStyles.{ReadStyles}
use Rattle.sheet_styles.specs.declared.all_values.SheetValues.{SheetValues}

-- whether a style is automatic, or whether it isn't
abbrev pub has_auto : Bool → InPart → Bool
has_auto true in_part = in_part.auto
has_auto false in_part = not in_part.auto

-- the style that an element is, where these names can be referred to
abbrev pub style_at : Names → InPart → List Style
style_at names in_part = map (λ style. style_by (of_family names.styles style.family) names.masters in_part.auto style.family style.name in_part.element) (style_name in_part.element)

-- the styles that are automatic, or those that aren't
abbrev pub styles_with : Names → Bool → List InPart → List Style
styles_with names is_auto kept = flat_map (style_at names) (filter (has_auto is_auto) kept)

-- what is left out in a style
abbrev pub left_at : Names → Element → Left
left_at names element = all_of (map (λ style. left_by (of_family names.styles style.family) names.masters style.family element) (style_name element))

-- what is left out in styles
abbrev pub all_left : Names → List InPart → Left
all_left names kept = all_of (map (λ in_part. left_at names in_part.element) kept)

-- the styles that are kept were read
pub record ReadStylesAre (names : Names) (kept : List InPart) (read : ReadStyles) : Type 0 where
  pub styles_are : read.styles ≡ styles_with names false kept ++ styles_with names true kept
  pub left_is : read.left ≡ shown (all_left names kept)

-- all that the style parts of a tree say was read
pub record AreValues (read : SheetValues) (root : Element) : Type 0 where
  pub styles_are : read.styles ≡ styles.styles (names_of root) root
  pub defaults_are : read.defaults ≡ styles.defaults root
  pub lists_are : read.lists ≡ styles.list_styles root
  pub outline_is : read.outline ≡ styles.outline root
  pub layouts_are : read.layouts ≡ styles.layouts root
  pub left_is : read.left ≡ shown (styles.style_parts_left (names_of root) root)
