-- The levels of list styles and of the outline.
use Rattle.std.specs.Prelude.{◌≡◌, ℕ, ◌==◌, ◌&&◌, Bool, false, List, [], ◌∷◌, map, filter, is_some}
use Rattle.std.specs.Option.{option_map_or}
use Rattle.std.specs.List.{flat_map}
use Rattle.doc_model.specs.declared.field.Format.TheVariants as format
use Rattle.doc_model.specs.declared.list_style.ListLevel.{ListLevel}
use Rattle.doc_model.specs.declared.list_style.LevelWhat.TheVariants.{Bullet, Number}
use Rattle.load_model.specs.declared.element.Attribute.{Attribute}
use Rattle.load_model.specs.declared.element.Element.{Element}
use Rattle.load_model.specs.declared.names.Key.TheVariants as key
use Rattle.load_model.specs.declared.names.Tag.TheVariants as tag
use Rattle.load_model.specs.Left.{Left, is, both, only_attributes, leaf_left, attributes_of, firsts}
use Rattle.load_model.specs.Styles.{is_level, level_of, level_with, level_rules, levels, levels_left}
use Rattle.load_model.specs.Values as value
use Rattle.load_model.specs.Values.{stated_or, attributes_left}
use Rattle.element_parts.specs.Shown.{shown}
use Rattle.sheet_values.specs.declared.levels.LevelsOf.{LevelsOf}
use Rattle.sheet_values.specs.declared.levels.LevelsOf.TheVariants as of_kind
use Rattle.sheet_values.specs.declared.levels.ReadLevels.{ReadLevels}

-- whether an element is such a level
abbrev pub is_of : LevelsOf → Element → Bool
is_of of_kind.ListStyle element = is_level element
is_of of_kind.Outline element = is tag.OutlineLevel element

-- whether an element has a level's number
abbrev pub has_level : ℕ → Element → Bool
has_level level element = option_map_or (λ given. given == level) (level_of element) false

-- whether two elements have the same one
abbrev pub same_level : Element → Element → Bool
same_level one other = option_map_or (λ level. has_level level other) (level_of one) false

-- the levels that are kept among elements: the first of each number
abbrev pub kept_among : LevelsOf → List Element → List Element
kept_among of elements = firsts same_level (filter (λ element. is_of of element && is_some (level_of element)) elements)

-- the numbers of levels
abbrev pub level_numbers : List ℕ
level_numbers = 1 ∷ 2 ∷ 3 ∷ 4 ∷ 5 ∷ 6 ∷ 7 ∷ 8 ∷ 9 ∷ 10 ∷ []

-- the levels of a number among those that are kept
abbrev pub levels_at : ℕ → List Element → List ListLevel
levels_at level kept = map (level_with level) (filter (has_level level) kept)

-- those of some numbers
abbrev pub levels_among : List ℕ → List Element → List ListLevel
levels_among numbers kept = flat_map (λ level. levels_at level kept) numbers

-- a level with a bullet, by its attributes
abbrev pub bullet_level : ℕ → List Attribute → ListLevel
bullet_level level attributes = record { level = level; what = Bullet (stated_or key.BulletChar value.one_character 0 attributes) }

-- a level with numbers
abbrev pub number_level : ℕ → List Attribute → ListLevel
number_level level attributes = record {
  level = level;
  what = Number (stated_or key.NumberFormat value.number_format format.Empty attributes) (stated_or key.NumberPrefix value.any_text [] attributes) (stated_or key.NumberSuffix value.any_text [] attributes)
      (stated_or key.StartValue (value.number 0 65535) 1 attributes) (stated_or key.DisplayLevels value.level 1 attributes);
}

-- what is left out in a level
abbrev pub level_left : Element → Left
level_left element = both (only_attributes (attributes_left (level_rules element) (attributes_of element))) (leaf_left element)

-- the levels that an element holds were read, with what is left out in it but for its attributes
pub record LevelsAre (read : ReadLevels) (of : LevelsOf) (element : Element) : Type 0 where
  pub levels_are : read.levels ≡ levels (is_of of) element
  pub left_is : read.left ≡ shown (levels_left (is_of of) element)
