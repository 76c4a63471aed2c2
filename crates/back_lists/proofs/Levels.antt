-- Levels are read back, each from its element, and in ascending order.
use Rattle.std.proofs.Common.{◌≡◌, ℕ, ◌≤◌, ◌<◌, ◌+◌, ◌-◌, ◌++◌, ◌==◌, ◌&&◌, ◌||◌, not, Bool, true, false, cond, List, [], ◌∷◌, map, filter, fold, length, codes, decimal, refl, ap, ap₂, sym, ◌∙◌, arith, eqb-true, ne_eqb, if◌then◌else◌, Option, Some, None, is_some}
use Rattle.std.specs.List.{flat_map, AllByRecursion as Each}
use Rattle.std.specs.Option.{option_map_or, option_or}
use Rattle.doc_model.specs.declared.field.Format.{Format}
use Rattle.doc_model.specs.declared.field.Format.TheVariants as format
use Rattle.doc_model.specs.declared.list_style.ListLevel.{ListLevel}
use Rattle.doc_model.specs.declared.list_style.LevelWhat.TheVariants.{Bullet, Number}
use Rattle.doc_model.specs.Ranges.{IsLevelNumber}
use Rattle.load_model.specs.declared.names.Key.{Key}
use Rattle.load_model.specs.declared.names.Key.TheVariants as key
use Rattle.load_model.specs.declared.names.Tag.{Tag}
use Rattle.load_model.specs.declared.names.Tag.TheVariants as tag
use Rattle.load_model.specs.declared.element.Attribute.{Attribute}
use Rattle.load_model.specs.declared.element.Element.{Element}
use Rattle.load_model.specs.Left.{Left, nothing, both, only_attributes, only_elements, all_of, all_but, attributes_of, children, tag_of, is_same_tag, is, leaf_left, firsts}
use Rattle.load_model.specs.Styles.{level_of, is_level, level_with, level_rules, kept_levels, levels, levels_left}
use Rattle.load_model.specs.Values as value
use Rattle.load_model.specs.Values.{Rule, rule, stated, stated_or, attributes_left}
use Rattle.written_model.specs.Elements.{empty_element}
use Rattle.written_model.specs.Styles.{level_element, number_attributes}
use Rattle.written_model.specs.Values.{format_text}
use Rattle.back_names.specs.Named.{tag_named}
use Rattle.back_values.proofs.Numbers.{number_back}
use Rattle.back_values.proofs.Words.{format_back}
use Rattle.back_styles.specs.Shown.{shown}
use Rattle.back_styles.proofs.Parts.{tag_shown, attributes_shown, children_shown}
use Rattle.back_styles.proofs.Slots.{Piece, Slot, needed, all_slots, all_named, look_up, stated_of, stated_in, IsGood, none_left}
use Rattle.tree_places.proofs.Within.{Pairs}
use Rattle.back_lists.specs.Lists.{IsInRange}
use Rattle.back_lists.proofs.Keys as named
use Rattle.back_lists.proofs.Sorted.{numbered, sorted}

-- an element that is read as a level, with nothing left out
pub record IsLevelBack (of_kind : Element → Bool) (read : ListLevel → Element) (level : ListLevel) : Type 0 where
  pub kind : of_kind (read level) ≡ true
  pub number : level_of (read level) ≡ Some level.level
  pub value : level_with level.level (read level) ≡ level
  pub left : both (only_attributes (attributes_left (level_rules (read level)) (attributes_of (read level)))) (leaf_left (read level)) ≡ nothing

level_back : (one : ℕ) → IsLevelNumber one → value.level (decimal one) ≡ Some one
level_back one is = number_back 1 10 one is.0 is.1 (omega arith)

-- what is stated, or what holds otherwise
stated_back : {X : Type 0} (wanted : Key) (read : List ℕ → Option X) (otherwise one : X) (slots : List Slot) (text : List ℕ) → look_up wanted slots ≡ option_or (Some text) None → read text ≡ Some one
    → stated_or wanted read otherwise (stated_of slots) ≡ one
stated_back wanted read otherwise one slots text found back = ap (λ (said : Option _). option_map_or (λ value. value) said otherwise) (stated_in wanted read slots (Some text) found ∙ back)

-- a level that is a bullet
module _ (number c : ℕ) (is : IsLevelNumber number) where
  abbrev bullet : ListLevel
  bullet = record { level = number; what = Bullet c }

  abbrev bullet_pieces : List Piece
  bullet_pieces =
      needed (codes "text:bullet-char") key.BulletChar (c ∷ []) named.bullet_key
      ∷ needed (codes "text:level") key.Level (decimal number) named.level_key ∷ []

  abbrev bullet_read : Element
  bullet_read = shown (level_element bullet)

  bullet_attributes : attributes_of bullet_read ≡ stated_of (all_slots bullet_pieces)
  bullet_attributes = attributes_shown (codes "text:list-level-style-bullet") _ [] ∙ all_named bullet_pieces

  bullet_tagged : tag_of bullet_read ≡ tag.BulletLevel
  bullet_tagged = tag_shown (codes "text:list-level-style-bullet") _ [] tag.BulletLevel named.bullet_tag

  bullet_alone : children bullet_read ≡ []
  bullet_alone = children_shown (codes "text:list-level-style-bullet") _ []

  pub bullet_back : IsLevelBack is_level (λ level. shown (level_element level)) bullet
  bullet_back = record {
    kind =
        ap₂ (λ (of : Tag) (attributes : List Attribute). is_same_tag of tag.NumberLevel || (is_same_tag of tag.BulletLevel && is_some (stated key.BulletChar value.one_character attributes))) bullet_tagged bullet_attributes
        ∙ ap is_some (stated_in key.BulletChar value.one_character (all_slots bullet_pieces) (Some (c ∷ [])) refl);
    number = ap (stated key.Level value.level) bullet_attributes ∙ stated_in key.Level value.level (all_slots bullet_pieces) (Some (decimal number)) refl ∙ level_back number is;
    value =
        ap₂ (λ (of : Tag) (attributes : List Attribute). by_tag (is_same_tag of tag.BulletLevel) (stated_or key.BulletChar value.one_character 0 attributes)) bullet_tagged bullet_attributes
        ∙ ap (λ (one : ℕ). record { level = number; what = Bullet one }) (stated_back key.BulletChar value.one_character 0 c (all_slots bullet_pieces) (c ∷ []) refl refl);
    left =
        ap₂ (λ (of : Tag) (inner : List Element). both (only_attributes (attributes_left (rules_of of) (attributes_of bullet_read))) (all_but 0 inner)) bullet_tagged bullet_alone
        ∙ ap (λ (count : ℕ). both (only_attributes count) (only_elements 0)) (ap (attributes_left own_rules) bullet_attributes ∙ none_left own_rules (all_slots bullet_pieces) ((ap is_some (level_back number is), tt), ((refl, tt), tt)));
  } where
    own_rules : List Rule
    own_rules = rule key.Level value.level ∷ rule key.BulletChar value.one_character ∷ []

    rules_of : Tag → List Rule
    rules_of of =
        if is_same_tag of tag.BulletLevel then own_rules
        else rule key.Level value.level ∷ rule key.NumberFormat value.number_format ∷ rule key.NumberPrefix value.any_text ∷ rule key.NumberSuffix value.any_text ∷ rule key.StartValue (value.number 0 65535) ∷ rule key.DisplayLevels value.level ∷ []

    numbers_of : ListLevel
    numbers_of = record { level = number; what = Number (stated_or key.NumberFormat value.number_format format.Empty (attributes_of bullet_read)) (stated_or key.NumberPrefix value.any_text [] (attributes_of bullet_read)) (stated_or key.NumberSuffix value.any_text [] (attributes_of bullet_read)) (stated_or key.StartValue (value.number 0 65535) 1 (attributes_of bullet_read)) (stated_or key.DisplayLevels value.level 1 (attributes_of bullet_read)) }

    by_tag : Bool → ℕ → ListLevel
    by_tag so one = if so then record { level = number; what = Bullet one } else numbers_of

-- a level that numbers, written as an element of this name
module _ (called : List ℕ) (which : Tag) (means : tag_named called ≡ which) (unlike : is_same_tag which tag.BulletLevel ≡ false) where
  module _ (number : ℕ) (shape : Format) (prefix suffix : List ℕ) (start display : ℕ) (is : IsInRange (record { level = number; what = Number shape prefix suffix start display })) where
    abbrev numbering : ListLevel
    numbering = record { level = number; what = Number shape prefix suffix start display }

    abbrev number_pieces : List Piece
    number_pieces =
        needed (codes "text:display-levels") key.DisplayLevels (decimal display) named.display_key
        ∷ needed (codes "text:start-value") key.StartValue (decimal start) named.start_key
        ∷ needed (codes "style:num-suffix") key.NumberSuffix suffix named.suffix_key
        ∷ needed (codes "style:num-prefix") key.NumberPrefix prefix named.prefix_key
        ∷ needed (codes "style:num-format") key.NumberFormat (format_text shape) named.format_key
        ∷ needed (codes "text:level") key.Level (decimal number) named.level_key ∷ []

    abbrev number_read : Element
    number_read = shown (empty_element called (number_attributes numbering (numbering.what)))

    abbrev slots : List Slot
    slots = all_slots number_pieces

    number_read_attributes : attributes_of number_read ≡ stated_of slots
    number_read_attributes = attributes_shown called _ [] ∙ all_named number_pieces

    pub number_tagged : tag_of number_read ≡ which
    number_tagged = tag_shown called _ [] which means

    number_alone : children number_read ≡ []
    number_alone = children_shown called _ []

    start_read : value.number 0 65535 (decimal start) ≡ Some start
    start_read = number_back 0 65535 start (omega arith) is.1.0 (omega arith)

    abbrev own_rules : List Rule
    own_rules =
        rule key.Level value.level ∷ rule key.NumberFormat value.number_format ∷ rule key.NumberPrefix value.any_text ∷ rule key.NumberSuffix value.any_text
        ∷ rule key.StartValue (value.number 0 65535) ∷ rule key.DisplayLevels value.level ∷ []

    all_good : Each (IsGood own_rules) slots
    all_good =
        ((ap is_some (level_back number is.0), tt), ((ap is_some (format_back shape), tt), ((refl, tt), ((refl, tt), ((ap is_some start_read, tt), ((ap is_some (level_back display is.1.1), tt), tt))))))

    abbrev said : List Attribute → ListLevel
    said attributes = record { level = number; what = Number (stated_or key.NumberFormat value.number_format format.Empty attributes) (stated_or key.NumberPrefix value.any_text [] attributes) (stated_or key.NumberSuffix value.any_text [] attributes) (stated_or key.StartValue (value.number 0 65535) 1 attributes) (stated_or key.DisplayLevels value.level 1 attributes) }

    said_is : said (stated_of slots) ≡ numbering
    said_is = λ i. record {
      level = number;
      what = Number
          (stated_back key.NumberFormat value.number_format format.Empty shape slots (format_text shape) refl (format_back shape) i)
          (stated_back key.NumberPrefix value.any_text [] prefix slots prefix refl refl i)
          (stated_back key.NumberSuffix value.any_text [] suffix slots suffix refl refl i)
          (stated_back key.StartValue (value.number 0 65535) 1 start slots (decimal start) refl start_read i)
          (stated_back key.DisplayLevels value.level 1 display slots (decimal display) refl (level_back display is.1.1) i);
    }

    pub number_is : level_of number_read ≡ Some number
    number_is = ap (stated key.Level value.level) number_read_attributes ∙ stated_in key.Level value.level slots (Some (decimal number)) refl ∙ level_back number is.0

    no_bullet : is_same_tag (tag_of number_read) tag.BulletLevel ≡ false
    no_bullet = ap (λ (of : Tag). is_same_tag of tag.BulletLevel) number_tagged ∙ unlike

    pub value_is : level_with number number_read ≡ numbering
    value_is =
        ap₂ (λ (so : Bool) (attributes : List Attribute). cond so (record { level = number; what = Bullet (stated_or key.BulletChar value.one_character 0 (attributes_of number_read)) }) (said attributes)) no_bullet number_read_attributes
        ∙ said_is

    pub left_is : both (only_attributes (attributes_left (level_rules number_read) (attributes_of number_read))) (leaf_left number_read) ≡ nothing
    left_is =
        ap₂ (λ (so : Bool) (inner : List Element). both (only_attributes (attributes_left (cond so (rule key.Level value.level ∷ rule key.BulletChar value.one_character ∷ []) own_rules) (attributes_of number_read))) (all_but 0 inner)) no_bullet number_alone
        ∙ ap (λ (count : ℕ). both (only_attributes count) (only_elements 0)) (ap (attributes_left own_rules) number_read_attributes ∙ none_left own_rules slots all_good)

-- levels among what an element holds
module _ (of_kind : Element → Bool) (read : ListLevel → Element) where
  abbrev IsBack : ListLevel → Type 0
  IsBack level = IsLevelBack of_kind read level

  all_of_kind : (all : List ListLevel) → Each IsBack all → filter (λ one. of_kind one && is_some (level_of one)) (map read all) ≡ map read all
  all_of_kind [] back = refl
  all_of_kind (level ∷ all) back =
      ap₂ (λ (so : Bool) (more : List Element). cond so (read level ∷ more) more) (ap₂ (λ (so : Bool) (one : Option ℕ). so && is_some one) back.0.kind back.0.number) (all_of_kind all back.1)

  abbrev same : Element → Element → Bool
  same one other = option_map_or (λ level. option_map_or (λ given. given == level) (level_of other) false) (level_of one) false

  others : (level : ListLevel) (all : List ListLevel) → IsBack level → Each IsBack all → Each (λ other. level.level < other.level) all → filter (λ other. not (same (read level) other)) (map read all) ≡ map read all
  others level [] own back above = refl
  others level (other ∷ all) own back above =
      ap₂ (λ (so : Bool) (more : List Element). cond (not so) (read other ∷ more) more)
      (ap₂ (λ (one two : Option ℕ). option_map_or (λ number. option_map_or (λ given. given == number) two false) one false) own.number back.0.number ∙ ne_eqb other.level level.level (λ e. omega arith)) (others level all own back.1 above.1)

  firsts_are : (all : List ListLevel) → Each IsBack all → Pairs (λ one other. one.level < other.level) all → firsts same (map read all) ≡ map read all
  firsts_are [] back ascending = refl
  firsts_are (level ∷ all) back ascending =
      ap (λ (more : List Element). read level ∷ filter (λ other. not (same (read level) other)) more) (firsts_are all back.1 ascending.1) ∙ ap (λ (more : List Element). read level ∷ more) (others level all back.0 back.1 ascending.0)

  -- those of one number
  numbered_back : (wanted : ℕ) (all : List ListLevel) → Each IsBack all
      → map (level_with wanted) (filter (λ one. option_map_or (λ given. given == wanted) (level_of one) false) (map read all)) ≡ numbered (λ level. level.level) wanted all
  numbered_back wanted [] back = refl
  numbered_back wanted (level ∷ all) back =
      ap (λ (one : Option ℕ). map (level_with wanted) (cond (option_map_or (λ given. given == wanted) one false) (read level ∷ rest) rest)) back.0.number
      ∙ by_number (level.level == wanted) refl ∙ ap (λ (more : List ListLevel). cond (level.level == wanted) (level ∷ more) more) (numbered_back wanted all back.1) where
        rest : List Element
        rest = filter (λ one. option_map_or (λ given. given == wanted) (level_of one) false) (map read all)

        by_number : (so : Bool) → (level.level == wanted) ≡ so → map (level_with wanted) (cond so (read level ∷ rest) rest) ≡ cond so (level ∷ map (level_with wanted) rest) (map (level_with wanted) rest)
        by_number true e = ap (λ (one : ListLevel). one ∷ map (level_with wanted) rest) (ap (λ (number : ℕ). level_with number (read level)) (sym (eqb-true level.level wanted e)) ∙ back.0.value)
        by_number false e = refl

  all_numbered : (wanted : List ℕ) (all : List ListLevel) → Each IsBack all
      → flat_map (λ number. map (level_with number) (filter (λ one. option_map_or (λ given. given == number) (level_of one) false) (map read all))) wanted ≡ flat_map (λ number. numbered (λ level. level.level) number all) wanted
  all_numbered [] all back = refl
  all_numbered (number ∷ wanted) all back = ap₂ (λ (one more : List ListLevel). one ++ more) (numbered_back number all back) (all_numbered wanted all back)

  in_ten : (all : List ListLevel) → Each IsInRange all → Each (λ level. (1 ≤ level.level) × (level.level < 1 + 10)) all
  in_ten [] are = tt
  in_ten (level ∷ all) are = ((are.0.0.0, below level.level are.0.0.1), in_ten all are.1) where
    below : (n : ℕ) → n ≤ 10 → n < 1 + 10
    below n few = omega arith

  none_left_in : (all : List ListLevel) → Each IsBack all → all_of (map (λ one. both (only_attributes (attributes_left (level_rules one) (attributes_of one))) (leaf_left one)) (map read all)) ≡ nothing
  none_left_in [] back = refl
  none_left_in (level ∷ all) back = ap (λ (one : Left). fold both (both nothing one) (map (λ other. both (only_attributes (attributes_left (level_rules other) (attributes_of other))) (leaf_left other)) (map read all))) back.0.left ∙ none_left_in all back.1

  module _ (element : Element) (all : List ListLevel) (held : children element ≡ map read all) (back : Each IsBack all) (are : Each IsInRange all) (ascending : Pairs (λ one other. one.level < other.level) all) where
    kept : kept_levels of_kind element ≡ map read all
    kept = ap (λ (inner : List Element). firsts same (filter (λ one. of_kind one && is_some (level_of one)) inner)) held ∙ ap (firsts same) (all_of_kind all back) ∙ firsts_are all back ascending

    pub levels_back : levels of_kind element ≡ all
    levels_back =
        ap (λ (found : List Element). flat_map (λ level. map (level_with level) (filter (λ one. option_map_or (λ given. given == level) (level_of one) false) found)) (1 ∷ 2 ∷ 3 ∷ 4 ∷ 5 ∷ 6 ∷ 7 ∷ 8 ∷ 9 ∷ 10 ∷ [])) kept
        ∙ all_numbered (1 ∷ 2 ∷ 3 ∷ 4 ∷ 5 ∷ 6 ∷ 7 ∷ 8 ∷ 9 ∷ 10 ∷ []) all back ∙ sorted (λ level. level.level) 1 10 all ascending (in_ten all are)

    pub nothing_left : levels_left of_kind element ≡ nothing
    nothing_left =
        ap₂ (λ (found inner : List Element). both (all_but (length found) inner) (all_of (map (λ one. both (only_attributes (attributes_left (level_rules one) (attributes_of one))) (leaf_left one)) found))) kept held
        ∙ ap₂ (λ (count : ℕ) (left : Left). both (only_elements count) left) (none (length (map read all))) (none_left_in all back) where
          none : (n : ℕ) → n - n ≡ 0
          none n = omega arith
