-- All that is read of the style parts and of the part of masters.
use Rattle.std.specs.Prelude.{◌≡◌, map}
use Rattle.std.specs.Option.{option_map}
use Rattle.load_model.specs.declared.element.Element.{Element}
use Rattle.load_model.specs.Styles.{style_parts, in_parts, kept_styles, kept_default, kept_outline, kept_lists, kept_layouts, kept_masters, names_of}
use Rattle.sheet_kept.specs.Held.{seen}
use Rattle.sheet_names.specs.declared.sheet.Sheet.{Sheet}
use Rattle.sheet_names.specs.Known.{Knows}

-- this is what is read of a tree
pub record IsSheet (sheet : Sheet) (root : Element) : Type 0 where
  pub parts_are : map (λ part. part.now) sheet.parts.items ≡ style_parts root
  pub held_is : map seen sheet.held.items ≡ in_parts root
  pub styles_are : map seen sheet.styles.items ≡ kept_styles root
  pub default_is : option_map (λ element. element.now) sheet.default_style ≡ kept_default root
  pub outline_is : option_map (λ element. element.now) sheet.outline ≡ kept_outline root
  pub lists_are : map (λ element. element.now) sheet.lists.items ≡ kept_lists root
  pub layouts_are : map (λ element. element.now) sheet.layouts.items ≡ kept_layouts root
  pub masters_are : map (λ element. element.now) sheet.masters.items ≡ kept_masters root
  pub names_are : Knows sheet.names (names_of root)
