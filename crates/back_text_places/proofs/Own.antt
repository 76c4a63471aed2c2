-- Names of their own, where it is of no account whether they are the first.
use Rattle.std.proofs.Common.{◌≡◌, ℕ, ◌==◌, ◌&&◌, ◌||◌, not, Bool, true, false, cond, List, [], ◌∷◌, filter, find, length, refl, sym, ap, ap₂, ◌∙◌, eqb-true, eq-eqb, Option, Some, None}
use Rattle.std.specs.List.{list_all}
use Rattle.std.specs.Option.{option_and_then, option_map, option_map_or}
use Rattle.load_model.specs.declared.names.Key.{Key}
use Rattle.load_model.specs.declared.names.Key.TheVariants as key
use Rattle.load_model.specs.declared.element.Attribute.{Attribute}
use Rattle.load_model.specs.Blocks.{left_by, note_rules}
use Rattle.load_model.specs.Fields.{field_rules, own_name}
use Rattle.load_model.specs.Left.{Left, only_attributes}
use Rattle.load_model.specs.Values as value
use Rattle.load_model.specs.Values.{Rule, attributes_left, is_read, is_same_key, rule, stated, stated_or, value_of}
use Rattle.load_model.specs.declared.names.Tag.TheVariants as tag
use Rattle.back_text_places.specs.Standing.{has_name, has_name_or_none}

swapped : (a b : ℕ) → (a == b) ≡ false → (b == a) ≡ false
swapped a b e = by_test (b == a) refl where
  by_test : (c : Bool) → (b == a) ≡ c → (b == a) ≡ false
  by_test false f = f
  by_test true f = absurd (apart (sym (eq-eqb a b (sym (eqb-true b a f))) ∙ e)) where
    apart : true ≡ false → ⊥
    apart x = cc

other_key : (one wanted : Key) → is_same_key one wanted ≡ false → is_same_key wanted one ≡ false
other_key one wanted e = swapped _ _ e

no_yes : (b : Bool) → not b ≡ true → b ≡ false
no_yes true e = cc
no_yes false e = refl

all_first : (one more : Bool) → (one && more) ≡ true → (one ≡ true) × (more ≡ true)
all_first true true e = (refl, refl)
all_first true false e = cc
all_first false more e = cc

-- no attribute of a key
abbrev IsAbsent : Key → List Attribute → Type 0
IsAbsent wanted attributes = list_all (λ attribute. not (is_same_key attribute.key wanted)) attributes ≡ true

none_found : (wanted : Key) (attributes : List Attribute) → IsAbsent wanted attributes → value_of wanted attributes ≡ None
none_found wanted [] absent = refl
none_found wanted (attribute ∷ attributes) absent =
    let parts = all_first (not (is_same_key attribute.key wanted)) _ absent in
    ap (λ (b : Bool). option_map (λ (one : Attribute). one.text) (cond b (Some attribute) (find (λ (one : Attribute). is_same_key one.key wanted) attributes))) (no_yes (is_same_key attribute.key wanted) parts.0) ∙ none_found wanted attributes parts.1

-- rules that differ for one key alone leave out alike where no attribute has it
module _ (wanted : Key) (rules others : List Rule) (alike : (attribute : Attribute) → is_same_key wanted attribute.key ≡ false → is_read rules attribute ≡ is_read others attribute) where
  pub left_alike : (attributes : List Attribute) → IsAbsent wanted attributes → attributes_left rules attributes ≡ attributes_left others attributes
  left_alike attributes absent = ap length (filtered attributes absent) where
    kept : List Rule → List Attribute → List Attribute
    kept by held = filter (λ (attribute : Attribute). not (is_read by attribute) && not (is_same_key attribute.key key.Uncounted)) held

    filtered : (held : List Attribute) → IsAbsent wanted held → kept rules held ≡ kept others held
    filtered [] absent = refl
    filtered (attribute ∷ held) absent =
        let parts = all_first (not (is_same_key attribute.key wanted)) _ absent in
        ap₂ (λ (b : Bool) (more : List Attribute). cond (not b && not (is_same_key attribute.key key.Uncounted)) (attribute ∷ more) more)
        (alike attribute (other_key attribute.key wanted (no_yes (is_same_key attribute.key wanted) parts.0))) (filtered held parts.1)

-- whether it is of account whether a name is the first
module _ (wanted : Key) (attributes : List Attribute) (is_first : Bool) (good : has_name_or_none wanted attributes ≡ true) (first : has_name wanted attributes ≡ true → is_first ≡ true) where
  module _ (X : Type 0) (by : Bool → X) (absent_same : IsAbsent wanted attributes → by is_first ≡ by true) where
    by_name : (b : Bool) → has_name wanted attributes ≡ b → (b || list_all (λ attribute. not (is_same_key attribute.key wanted)) attributes) ≡ true → by is_first ≡ by true
    by_name true e f = ap by (first e)
    by_name false e f = absent_same f

    pub same_by : by is_first ≡ by true
    same_by = by_name (has_name wanted attributes) refl good

  pub name_alike : stated_or wanted (own_name is_first) [] attributes ≡ stated_or wanted (own_name true) [] attributes
  name_alike = same_by (List ℕ) (λ b. stated_or wanted (own_name b) [] attributes) (λ absent.
      ap (λ (found : Option (List ℕ)). option_map_or (λ (text : List ℕ). text) (option_and_then (own_name is_first) found) []) (none_found wanted attributes absent)
      ∙ sym (ap (λ (found : Option (List ℕ)). option_map_or (λ (text : List ℕ). text) (option_and_then (own_name true) found) []) (none_found wanted attributes absent)))

-- in a note
note_read : (b : Bool) (attribute : Attribute) → is_same_key key.Id attribute.key ≡ false → is_read (note_rules b) attribute ≡ is_read (note_rules true) attribute
note_read b attribute e =
    ap (λ (c : Bool). option_map_or (λ (one : Rule). one.is_good attribute.text) (cond c (Some (rule key.Id (own_name b))) others) false) e
    ∙ sym (ap (λ (c : Bool). option_map_or (λ (one : Rule). one.is_good attribute.text) (cond c (Some (rule key.Id (own_name true))) others) false) e)
  where
    others : Option Rule
    others = find (λ (one : Rule). is_same_key one.key attribute.key) (rule key.NoteClass value.note_class ∷ [])

pub note_alike : (attributes : List Attribute) (is_first : Bool) → has_name_or_none key.Id attributes ≡ true → (has_name key.Id attributes ≡ true → is_first ≡ true)
    → left_by (note_rules is_first) attributes ≡ left_by (note_rules true) attributes
note_alike attributes is_first good first =
    same_by key.Id attributes is_first good first Left (λ b. left_by (note_rules b) attributes)
    (λ absent. ap only_attributes (left_alike key.Id (note_rules is_first) (note_rules true) (note_read is_first) attributes absent))

-- in a sequence field
field_read : (b : Bool) (attribute : Attribute) → is_same_key key.ReferenceName attribute.key ≡ false → is_read (field_rules tag.Sequence b) attribute ≡ is_read (field_rules tag.Sequence true) attribute
field_read b attribute e =
    ap (λ (c : Bool). option_map_or (λ (one : Rule). one.is_good attribute.text) (cond (is_same_key key.TextName attribute.key) (Some (rule key.TextName value.name_or_none)) (cond c (Some (rule key.ReferenceName (own_name b))) others)) false) e
    ∙ sym (ap (λ (c : Bool). option_map_or (λ (one : Rule). one.is_good attribute.text) (cond (is_same_key key.TextName attribute.key) (Some (rule key.TextName value.name_or_none)) (cond c (Some (rule key.ReferenceName (own_name true))) others)) false) e)
  where
    others : Option Rule
    others = find (λ (one : Rule). is_same_key one.key attribute.key) (rule key.NumberFormat value.number_format ∷ [])

pub field_alike : (attributes : List Attribute) (is_first : Bool) → has_name_or_none key.ReferenceName attributes ≡ true → (has_name key.ReferenceName attributes ≡ true → is_first ≡ true)
    → left_by (field_rules tag.Sequence is_first) attributes ≡ left_by (field_rules tag.Sequence true) attributes
field_alike attributes is_first good first =
    same_by key.ReferenceName attributes is_first good first Left (λ b. left_by (field_rules tag.Sequence b) attributes)
    (λ absent. ap only_attributes (left_alike key.ReferenceName (field_rules tag.Sequence is_first) (field_rules tag.Sequence true) (field_read is_first) attributes absent))
