-- List styles and the outline are read back.
use Rattle.std.proofs.Common.{◌≡◌, ℕ, ◌<◌, ◌++◌, ◌&&◌, ◌||◌, cond, List, [], ◌∷◌, map, codes, refl, ap, ap₂, ◌∙◌, Option, Some, None, option_to_list, is_some, true}
use Rattle.std.specs.List.{AllByRecursion as Each}
use Rattle.std.specs.Option.{option_map_or}
use Rattle.markup_nodes.specs.declared.tree.Elem.{Elem}
use Rattle.markup_nodes.specs.Node.{Node}
use Rattle.doc_model.specs.declared.list_style.ListStyle.{ListStyle}
use Rattle.doc_model.specs.declared.list_style.ListLevel.{ListLevel}
use Rattle.doc_model.specs.declared.list_style.LevelWhat.{LevelWhat}
use Rattle.doc_model.specs.declared.list_style.LevelWhat.TheVariants.{Bullet, Number}
use Rattle.doc_model.specs.Valid.{IsNumberLevel}
use Rattle.load_model.specs.declared.names.Key.TheVariants as key
use Rattle.load_model.specs.declared.names.Tag.{Tag}
use Rattle.load_model.specs.declared.names.Tag.TheVariants as tag
use Rattle.load_model.specs.declared.element.Element.{Element}
use Rattle.load_model.specs.Left.{Left, nothing, both, only_attributes, all_of, attributes_of, children, tag_of, is_same_tag, is, first}
use Rattle.load_model.specs.Styles.{is_level, levels, outline_left}
use Rattle.load_model.specs.Values as value
use Rattle.load_model.specs.Values.{rule, stated, attributes_left}
use Rattle.written_model.specs.Elements.{element, empty_element, part}
use Rattle.written_model.specs.Styles.{level_element, number_attributes}
use Rattle.back_fields.specs.Fit.{IsName}
use Rattle.back_values.proofs.Texts.{name_back}
use Rattle.back_styles.specs.Shown.{shown, held_of}
use Rattle.back_styles.proofs.Keys.{name_key}
use Rattle.back_styles.proofs.Parts.{tag_shown, attributes_shown, children_shown, held_both}
use Rattle.back_styles.proofs.Slots.{Slot, slot, needed, all_named, stated_of, stated_in, none_left}
use Rattle.tree_places.proofs.Within.{Pairs, pairs_of}
use Rattle.back_lists.specs.Lists.{IsInRange, AreReadableLevels, IsListBack, IsOutlineBack, list_read}
use Rattle.back_lists.proofs.Keys as named
use Rattle.back_lists.proofs.Levels.{IsLevelBack, bullet_back, number_is, value_is, left_is, number_tagged, levels_back, nothing_left}

-- levels of a list style
abbrev level_read : ListLevel → Element
level_read level = shown (level_element level)

is_number_level : (element : Element) → tag_of element ≡ tag.NumberLevel → is_level element ≡ true
is_number_level element is = ap (λ (of : Tag). is_same_tag of tag.NumberLevel || (is_same_tag of tag.BulletLevel && is_some (stated key.BulletChar value.one_character (attributes_of element)))) is

level_by_what : (number : ℕ) (what : LevelWhat) → IsInRange (record { level = number; what = what }) → IsLevelBack is_level level_read (record { level = number; what = what })
level_by_what number (Bullet c) are = bullet_back number c are.0
level_by_what number (Number shape prefix suffix start display) are = record {
  kind = is_number_level _ (number_tagged (codes "text:list-level-style-number") tag.NumberLevel named.number_tag refl number shape prefix suffix start display are);
  number = number_is (codes "text:list-level-style-number") tag.NumberLevel named.number_tag refl number shape prefix suffix start display are;
  value = value_is (codes "text:list-level-style-number") tag.NumberLevel named.number_tag refl number shape prefix suffix start display are;
  left = left_is (codes "text:list-level-style-number") tag.NumberLevel named.number_tag refl number shape prefix suffix start display are;
}

level_back : (level : ListLevel) → IsInRange level → IsLevelBack is_level level_read level
level_back level are = level_by_what level.level level.what are

all_back : (all : List ListLevel) → Each IsInRange all → Each (IsLevelBack is_level level_read) all
all_back [] are = tt
all_back (level ∷ all) are = (level_back level are.0, all_back all are.1)

held_levels : {X : Type 0} (made : X → Node Elem) → ((x : X) → held_of (made x ∷ []) ≡ shown (made x) ∷ []) → (xs : List X) → held_of (map made xs) ≡ map (λ x. shown (made x)) xs
held_levels made alone [] = refl
held_levels made alone (x ∷ xs) = held_both (made x ∷ []) (map made xs) ∙ ap₂ (λ (one more : List Element). one ++ more) (alone x) (held_levels made alone xs)

alone : (level : ListLevel) → held_of (level_element level ∷ []) ≡ level_read level ∷ []
alone level = by_what level.level level.what where
  by_what : (number : ℕ) (what : LevelWhat) → held_of (level_element (record { level = number; what = what }) ∷ []) ≡ level_read (record { level = number; what = what }) ∷ []
  by_what number (Bullet c) = refl
  by_what number (Number shape prefix suffix start display) = refl

module _ (list : ListStyle) (name : IsName list.name) (are : AreReadableLevels list.levels) where
  abbrev own : List Slot
  own = slot key.Name (Some list.name) ∷ []

  own_attributes : attributes_of (list_read list) ≡ stated_of own
  own_attributes = attributes_shown (codes "text:list-style") _ (map level_element list.levels) ∙ all_named (needed (codes "style:name") key.Name list.name name_key ∷ [])

  own_children : children (list_read list) ≡ map level_read list.levels
  own_children = children_shown (codes "text:list-style") _ (map level_element list.levels) ∙ held_levels level_element alone list.levels

  pub list_back : IsListBack list
  list_back = record {
    name = ap (stated key.Name value.name) own_attributes ∙ stated_in key.Name value.name own (Some list.name) refl ∙ name_back list.name name.0 name.1;
    value = levels_back is_level level_read (list_read list) list.levels own_children (all_back list.levels are.0) are.0 (pairs_of (λ left right. left.level < right.level) list.levels are.1);
    left =
        ap₂ both (ap only_attributes (ap (attributes_left (rule key.Name value.name ∷ [])) own_attributes ∙ none_left (rule key.Name value.name ∷ []) own ((ap is_some (name_back list.name name.0 name.1), tt), tt)))
        (nothing_left is_level level_read (list_read list) list.levels own_children (all_back list.levels are.0) are.0 (pairs_of (λ left right. left.level < right.level) list.levels are.1));
  }

-- levels of the outline
abbrev outline_level : ListLevel → Node Elem
outline_level level = empty_element (codes "text:outline-level-style") (number_attributes level level.what)

abbrev outline_level_read : ListLevel → Element
outline_level_read level = shown (outline_level level)

outline_by_what : (number : ℕ) (what : LevelWhat) → IsInRange (record { level = number; what = what }) → IsNumberLevel (record { level = number; what = what })
    → IsLevelBack (is tag.OutlineLevel) outline_level_read (record { level = number; what = what })
outline_by_what number (Bullet c) are numbers = absurd numbers
outline_by_what number (Number shape prefix suffix start display) are numbers = record {
  kind = ap (λ (of : Tag). is_same_tag of tag.OutlineLevel) (number_tagged (codes "text:outline-level-style") tag.OutlineLevel named.outline_level_tag refl number shape prefix suffix start display are);
  number = number_is (codes "text:outline-level-style") tag.OutlineLevel named.outline_level_tag refl number shape prefix suffix start display are;
  value = value_is (codes "text:outline-level-style") tag.OutlineLevel named.outline_level_tag refl number shape prefix suffix start display are;
  left = left_is (codes "text:outline-level-style") tag.OutlineLevel named.outline_level_tag refl number shape prefix suffix start display are;
}

outline_level_back : (level : ListLevel) → IsInRange level → IsNumberLevel level → IsLevelBack (is tag.OutlineLevel) outline_level_read level
outline_level_back level are numbers = outline_by_what level.level level.what are numbers

all_outline_back : (all : List ListLevel) → Each IsInRange all → Each IsNumberLevel all → Each (IsLevelBack (is tag.OutlineLevel) outline_level_read) all
all_outline_back [] are numbers = tt
all_outline_back (level ∷ all) are numbers = (outline_level_back level are.0 numbers.0, all_outline_back all are.1 numbers.1)

-- an outline of some levels, where it is written
record IsRound (all : List ListLevel) : Type 0 where
  value : option_map_or (levels (is tag.OutlineLevel)) (first tag.OutlineStyle (held_of (part (codes "text:outline-style") (map outline_level all)))) [] ≡ all
  left : all_of (map outline_left (option_to_list (first tag.OutlineStyle (held_of (part (codes "text:outline-style") (map outline_level all)))))) ≡ nothing

round_back : (all : List ListLevel) → AreReadableLevels all → Each IsNumberLevel all → IsRound all
round_back [] are numbers = record { value = refl; left = refl }
round_back (level ∷ all) are numbers = record {
  value = ap (λ (found : Option Element). option_map_or (levels (is tag.OutlineLevel)) found []) found
      ∙ levels_back (is tag.OutlineLevel) outline_level_read one (level ∷ all) held (all_outline_back (level ∷ all) are.0 numbers) are.0 ascending;
  left = ap (λ (found : Option Element). all_of (map outline_left (option_to_list found))) found
      ∙ ap₂ (λ (attributes : List _) (left : Left). all_of (both (only_attributes (attributes_left [] attributes)) left ∷ []))
      (attributes_shown (codes "text:outline-style") [] (map outline_level (level ∷ all))) (nothing_left (is tag.OutlineLevel) outline_level_read one (level ∷ all) held (all_outline_back (level ∷ all) are.0 numbers) are.0 ascending);
} where
  one : Element
  one = shown (element (codes "text:outline-style") [] (map outline_level (level ∷ all)))

  found : first tag.OutlineStyle (one ∷ []) ≡ Some one
  found = ap (λ (of : Tag). cond (is_same_tag of tag.OutlineStyle) (Some one) None) (tag_shown (codes "text:outline-style") [] (map outline_level (level ∷ all)) tag.OutlineStyle named.outline_tag)

  held : children one ≡ map outline_level_read (level ∷ all)
  held = children_shown (codes "text:outline-style") [] (map outline_level (level ∷ all)) ∙ held_levels outline_level (λ level. refl) (level ∷ all)

  ascending : Pairs (λ one other. one.level < other.level) (level ∷ all)
  ascending = pairs_of (λ left right. left.level < right.level) (level ∷ all) are.1

pub outline_back : (outline : ListStyle) → outline.name ≡ [] → AreReadableLevels outline.levels → Each IsNumberLevel outline.levels → IsOutlineBack outline
outline_back outline name are numbers = let is_round : IsRound outline.levels = round_back outline.levels are numbers in record { name = name; value = is_round.value; left = is_round.left }
