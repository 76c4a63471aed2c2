-- List styles that can be read back.
use Rattle.std.specs.Prelude.{◌≡◌, ◌≤◌, ◌<◌, List, [], map, Some, option_to_list, AllPairs}
use Rattle.std.specs.List.{AllByRecursion as Each}
use Rattle.std.specs.Option.{option_map_or}
use Rattle.doc_model.specs.declared.list_style.ListStyle.{ListStyle}
use Rattle.doc_model.specs.declared.list_style.ListLevel.{ListLevel}
use Rattle.doc_model.specs.declared.list_style.LevelWhat.{LevelWhat}
use Rattle.doc_model.specs.declared.list_style.LevelWhat.TheVariants.{Bullet, Number}
use Rattle.doc_model.specs.Ranges.{IsLevelNumber}
use Rattle.load_model.specs.declared.names.Tag.TheVariants as tag
use Rattle.load_model.specs.declared.element.Element.{Element}
use Rattle.load_model.specs.Left.{nothing, all_of, is, first}
use Rattle.load_model.specs.Styles.{name_of, is_level, levels, list_left, outline_left}
use Rattle.written_model.specs.Styles.{list_style_element, outline_style}
use Rattle.back_styles.specs.Shown.{shown, held_of}

-- the numbers of a level are in the ranges of their types
abbrev pub IsInRange : ListLevel → Type 0
IsInRange level = IsLevelNumber level.level × of_what level.what where
  of_what : LevelWhat → Type 0
  of_what (Bullet c) = Unit {0}
  of_what (Number format prefix suffix start display) = (start ≤ 65535) × IsLevelNumber display

-- levels in their ranges, in ascending order
abbrev pub AreReadableLevels : List ListLevel → Type 0
AreReadableLevels levels = Each IsInRange levels × AllPairs (λ left right. left.level < right.level) levels

-- a list style as it is written, named
abbrev pub list_read : ListStyle → Element
list_read list = shown (list_style_element list)

-- the outline, where it is written
abbrev pub outline_read : ListStyle → List Element
outline_read outline = held_of (outline_style outline)

-- a list style is read as itself, and nothing is left out
pub record IsListBack (list : ListStyle) : Type 0 where
  pub name : name_of (list_read list) ≡ Some list.name
  pub value : levels is_level (list_read list) ≡ list.levels
  pub left : list_left (list_read list) ≡ nothing

-- the outline is read as itself, and nothing is left out
pub record IsOutlineBack (outline : ListStyle) : Type 0 where
  pub name : outline.name ≡ []
  pub value : option_map_or (levels (is tag.OutlineLevel)) (first tag.OutlineStyle (outline_read outline)) [] ≡ outline.levels
  pub left : all_of (map outline_left (option_to_list (first tag.OutlineStyle (outline_read outline)))) ≡ nothing
