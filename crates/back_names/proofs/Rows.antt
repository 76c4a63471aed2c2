-- Attributes of which some may be absent, by rows of their names.
use Rattle.std.proofs.Common.{◌≡◌, ℕ, ◌||◌, not, Bool, true, false, List, [], ◌∷◌, ◌++◌, map, refl, ap, ap₂, sym, ◌∙◌, Option, Some, None, option_map}
use Rattle.std.specs.List.{filter_map, list_any, cons_option}
use Rattle.std.specs.Option.{is_none}
use Rattle.std.proofs.lemmas.Bool.{and_parts, and_from, or_parts, or_from, not-true, not_from_false}
use Rattle.markup_nodes.specs.declared.words.Attr.{Attr}
use Rattle.load_model.specs.Names.{Expanded, is_declaration, element_name, attribute_name, is_same_name, has_twice, has_bad_names}
use Rattle.written_model.specs.Elements.{attribute, unless_empty, where_stated, where_true}
use Rattle.back_names.specs.Named.{bound}
use Rattle.back_names.proofs.Plain.{declares_nothing, is_fine}

-- the name of an attribute, and its value where it is there
pub record Row : Type 0 where
  pub name : List ℕ
  pub value : Option (List ℕ)

-- an attribute in front of others, if it is there
abbrev pub in_front : List ℕ → Option (List ℕ) → List Attr → List Attr
in_front name None attrs = attrs
in_front name (Some value) attrs = attribute name value ∷ attrs

-- the attributes that are there
abbrev pub attributes_of : List Row → List Attr
attributes_of [] = []
attributes_of (row ∷ rows) = in_front row.name row.value (attributes_of rows)

abbrev pub given : List ℕ → List ℕ → Row
given name value = record { name = name; value = Some value }

abbrev pub unless_none : List ℕ → Option (List ℕ)
unless_none [] = None
unless_none (c ∷ cs) = Some (c ∷ cs)

abbrev pub unless : List ℕ → List ℕ → Row
unless name value = record { name = name; value = unless_none value }

abbrev pub stated : {X : Type 0} → List ℕ → (X → List ℕ) → Option X → Row
stated name text value = record { name = name; value = option_map text value }

abbrev pub if_true : Bool → List ℕ → Option (List ℕ)
if_true true value = Some value
if_true false value = None

abbrev pub where_so : List ℕ → List ℕ → Bool → Row
where_so name value so = record { name = name; value = if_true so value }

-- attributes by their rows
pub record AreByRows (attrs : List Attr) (rows : List Row) : Type 0 where
  pub are : attrs ≡ attributes_of rows

pub appended : (rows others : List Row) → attributes_of (rows ++ others) ≡ attributes_of rows ++ attributes_of others
appended [] others = refl
appended (row ∷ rows) others = by_value (appended rows others) row.value where
  by_value : attributes_of (rows ++ others) ≡ attributes_of rows ++ attributes_of others → (value : Option (List ℕ)) → in_front row.name value (attributes_of (rows ++ others)) ≡ in_front row.name value (attributes_of rows) ++ attributes_of others
  by_value behind None = behind
  by_value behind (Some value) = ap (λ (more : List Attr). attribute row.name value ∷ more) behind

pub no_rows : AreByRows [] []
no_rows = record { are = refl }

pub joined : {xs ys : List Attr} {rows others : List Row} → AreByRows xs rows → AreByRows ys others → AreByRows (xs ++ ys) (rows ++ others)
joined {xs} {ys} {rows} {others} e f = record { are = ap₂ (λ (a b : List Attr). a ++ b) e.are f.are ∙ sym (appended rows others) }

pub given_first : (name value : List ℕ) {attrs : List Attr} {rows : List Row} → AreByRows attrs rows → AreByRows (attribute name value ∷ attrs) (given name value ∷ rows)
given_first name value e = record { are = ap (λ (more : List Attr). attribute name value ∷ more) e.are }

pub unless_row : (name value : List ℕ) → AreByRows (unless_empty name value) (unless name value ∷ [])
unless_row name [] = record { are = refl }
unless_row name (c ∷ cs) = record { are = refl }

pub stated_row : {X : Type 0} (name : List ℕ) (text : X → List ℕ) (value : Option X) → AreByRows (where_stated name text value) (stated name text value ∷ [])
stated_row name text None = record { are = refl }
stated_row name text (Some value) = record { are = refl }

pub true_row : (name value : List ℕ) (so : Bool) → AreByRows (where_true name value so) (where_so name value so ∷ [])
true_row name value true = record { are = refl }
true_row name value false = record { are = refl }

-- all of the names, each with nothing for its value
abbrev pub all_named : List Row → List Attr
all_named rows = map (λ row. attribute row.name []) rows

abbrev expanded : Attr → Option Expanded
expanded attr = attribute_name attr.name bound

abbrev undeclared : Attr → Bool
undeclared attr = is_none (expanded attr)

fewer_declare : (rows : List Row) → declares_nothing (all_named rows) ≡ true → declares_nothing (attributes_of rows) ≡ true
fewer_declare [] all = refl
fewer_declare (row ∷ rows) all =
    let parts = and_parts (not (is_declaration row.name)) (declares_nothing (all_named rows)) all in
    by_value parts.0 (fewer_declare rows parts.1) row.value
  where
    by_value : not (is_declaration row.name) ≡ true → declares_nothing (attributes_of rows) ≡ true → (value : Option (List ℕ)) → declares_nothing (in_front row.name value (attributes_of rows)) ≡ true
    by_value own behind None = behind
    by_value own behind (Some value) = and_from (not (is_declaration row.name)) (declares_nothing (attributes_of rows)) own behind

fewer_undeclared : (rows : List Row) → list_any undeclared (all_named rows) ≡ false → list_any undeclared (attributes_of rows) ≡ false
fewer_undeclared [] all = refl
fewer_undeclared (row ∷ rows) all =
    let parts = or_parts (is_none (attribute_name row.name bound)) (list_any undeclared (all_named rows)) all in
    by_value parts.0 (fewer_undeclared rows parts.1) row.value
  where
    by_value : is_none (attribute_name row.name bound) ≡ false → list_any undeclared (attributes_of rows) ≡ false → (value : Option (List ℕ)) → list_any undeclared (in_front row.name value (attributes_of rows)) ≡ false
    by_value own behind None = behind
    by_value own behind (Some value) = or_from (is_none (attribute_name row.name bound)) (list_any undeclared (attributes_of rows)) own behind

-- a name that is none of all is none of those that are there
fewer_same : (name : Expanded) (rows : List Row) → list_any (is_same_name name) (filter_map expanded (all_named rows)) ≡ false → list_any (is_same_name name) (filter_map expanded (attributes_of rows)) ≡ false
fewer_same name [] all = refl
fewer_same name (row ∷ rows) all = by_value (fewer_same name rows (behind (attribute_name row.name bound) all)) row.value where
  behind : (said : Option Expanded) → list_any (is_same_name name) (cons_option said (filter_map expanded (all_named rows))) ≡ false → list_any (is_same_name name) (filter_map expanded (all_named rows)) ≡ false
  behind None none = none
  behind (Some one) none = (or_parts (is_same_name name one) (list_any (is_same_name name) (filter_map expanded (all_named rows))) none).1

  put : (said : Option Expanded) → list_any (is_same_name name) (cons_option said (filter_map expanded (all_named rows))) ≡ false
      → list_any (is_same_name name) (filter_map expanded (attributes_of rows)) ≡ false → list_any (is_same_name name) (cons_option said (filter_map expanded (attributes_of rows))) ≡ false
  put None none more = more
  put (Some one) none more =
      or_from (is_same_name name one) (list_any (is_same_name name) (filter_map expanded (attributes_of rows)))
      (or_parts (is_same_name name one) (list_any (is_same_name name) (filter_map expanded (all_named rows))) none).0 more

  by_value : list_any (is_same_name name) (filter_map expanded (attributes_of rows)) ≡ false → (value : Option (List ℕ)) → list_any (is_same_name name) (filter_map expanded (in_front row.name value (attributes_of rows))) ≡ false
  by_value more None = more
  by_value more (Some value) = put (attribute_name row.name bound) all more

fewer_twice : (rows : List Row) → has_twice (filter_map expanded (all_named rows)) ≡ false → has_twice (filter_map expanded (attributes_of rows)) ≡ false
fewer_twice [] all = refl
fewer_twice (row ∷ rows) all = by_value (fewer_twice rows (behind (attribute_name row.name bound) all)) row.value where
  behind : (said : Option Expanded) → has_twice (cons_option said (filter_map expanded (all_named rows))) ≡ false → has_twice (filter_map expanded (all_named rows)) ≡ false
  behind None none = none
  behind (Some one) none = (or_parts (list_any (is_same_name one) (filter_map expanded (all_named rows))) (has_twice (filter_map expanded (all_named rows))) none).1

  put : (said : Option Expanded) → has_twice (cons_option said (filter_map expanded (all_named rows))) ≡ false
      → has_twice (filter_map expanded (attributes_of rows)) ≡ false → has_twice (cons_option said (filter_map expanded (attributes_of rows))) ≡ false
  put None none more = more
  put (Some one) none more =
      or_from (list_any (is_same_name one) (filter_map expanded (attributes_of rows))) (has_twice (filter_map expanded (attributes_of rows)))
      (fewer_same one rows (or_parts (list_any (is_same_name one) (filter_map expanded (all_named rows))) (has_twice (filter_map expanded (all_named rows))) none).0) more

  by_value : has_twice (filter_map expanded (attributes_of rows)) ≡ false → (value : Option (List ℕ)) → has_twice (filter_map expanded (in_front row.name value (attributes_of rows))) ≡ false
  by_value more None = more
  by_value more (Some value) = put (attribute_name row.name bound) all more

-- where all names would do, those that are there do
pub rows_fine : (name : List ℕ) (rows : List Row) → is_fine name (all_named rows) ≡ true → is_fine name (attributes_of rows) ≡ true
rows_fine name rows fine =
    let parts = and_parts (declares_nothing (all_named rows)) (not (has_bad_names name (all_named rows) bound)) fine in
    let good = or_parts (is_none (element_name name bound) || list_any undeclared (all_named rows)) (has_twice (filter_map expanded (all_named rows))) (not-true (has_bad_names name (all_named rows) bound) parts.1) in
    let own = or_parts (is_none (element_name name bound)) (list_any undeclared (all_named rows)) good.0 in
    and_from (declares_nothing (attributes_of rows)) (not (has_bad_names name (attributes_of rows) bound)) (fewer_declare rows parts.0)
    (not_from_false (has_bad_names name (attributes_of rows) bound)
    (or_from (is_none (element_name name bound) || list_any undeclared (attributes_of rows)) (has_twice (filter_map expanded (attributes_of rows)))
    (or_from (is_none (element_name name bound)) (list_any undeclared (attributes_of rows)) own.0 (fewer_undeclared rows own.1)) (fewer_twice rows good.1)))
