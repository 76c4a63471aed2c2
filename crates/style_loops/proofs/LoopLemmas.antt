-- Styles with their ancestors, by places.
use Rattle.std.proofs.Common.{◌≡◌, ℕ, zero, suc, ◌+◌, ◌<◌, ◌≤◌, ◌&&◌, ◌||◌, not, Bool, true, false, cond, List, [], ◌∷◌, length, map, get_or, refl, sym, ap, ap₂, ◌∙◌, subst, arith, Option, Some, None, inl, inr}
use Rattle.std.specs.Prelude.{position, unwrap_or, slice_get, filter}
use Rattle.std.specs.Bool.{Decides}
use Rattle.std.specs.List.{position_or_len, list_any}
use Rattle.std.specs.Option.{option_map_or}
use Rattle.std.specs.Str.{bytes_eq}
use Rattle.std.proofs.lemmas.Bool.{cases_lt, lt-ltb, le-ltb, and_parts}
use Rattle.std.proofs.lemmas.Bool.Decides.{same_from_decides}
use Rattle.std.proofs.lemmas.List.{get_or-map, length-map, get_or_past, get_or_default, same_lists}
use Rattle.std.proofs.lemmas.List.Folds.{find_at}
use Rattle.std.proofs.lemmas.List.Sums.{passes_at_first}
use Rattle.doc_model.specs.declared.style.Family.{Family}
use Rattle.doc_model.specs.declared.style.Style.{Style}
use Rattle.style_model.specs.Lineage.{is_same_family, is_named, style_named, lineage_of}
use Rattle.parent_loops.specs.Ancestors.{parent_of, ancestor, IsOwnAncestor}
use Rattle.style_loops.specs.Loops.{AreDistinct, parent_in, loops}
use Rattle.style_loops.proofs.PlaceLemmas.{bytes_same, bytes_self, family_self, family_same}

-- of things of which at most one passes, that one is the first
none_further : {X : Type 0} (p : X → Bool) (xs : List X) (i : ℕ) (d : X) → length (filter p xs) ≤ 0 → i < length xs → p (get_or xs i d) ≡ true → ⊥
none_further p [] i d few l passes = omega (arith, l)
none_further p (x ∷ xs) zero d few l passes = let full : length (filter p (x ∷ xs)) ≡ suc (length (filter p xs)) = ap (λ b. length (cond b (x ∷ filter p xs) (filter p xs))) passes in omega (arith, full, few)
none_further p (x ∷ xs) (suc i) d few l passes = by_test (p x) (λ none. none_further p xs i d none (omega (arith, l)) passes) few where
  by_test : (b : Bool) → (length (filter p xs) ≤ 0 → ⊥) → length (cond b (x ∷ filter p xs) (filter p xs)) ≤ 0 → ⊥
  by_test true further none = omega (arith, none)
  by_test false further none = further none

pub only_one : {X : Type 0} (p : X → Bool) (xs : List X) (i : ℕ) (d : X) → length (filter p xs) ≤ 1 → i < length xs → p (get_or xs i d) ≡ true → position_or_len p xs ≡ i
only_one p [] i d few l passes = absurd (omega (arith, l))
only_one p (x ∷ xs) zero d few l passes = ap (λ b. cond (not b) (1 + position_or_len p xs) 0) passes
only_one p (x ∷ xs) (suc i) d few l passes = by_test (p x) (λ rest. only_one p xs i d rest (omega (arith, l)) passes) few where
  by_test : (b : Bool) → (length (filter p xs) ≤ 1 → position_or_len p xs ≡ i) → length (cond b (x ∷ filter p xs) (filter p xs)) ≤ 1 → cond (not b) (1 + position_or_len p xs) 0 ≡ suc i
  by_test true further none = absurd (none_further p xs i d (omega (arith, none)) (omega (arith, l)) passes)
  by_test false further rest = let at = further rest in omega (arith, at)

at_most : {X : Type 0} (p : X → Bool) (xs : List X) → position_or_len p xs ≤ length xs
at_most p [] = omega arith
at_most p (x ∷ xs) = by_test (p x) (at_most p xs) where
  by_test : (b : Bool) → position_or_len p xs ≤ length xs → cond (not b) (1 + position_or_len p xs) 0 ≤ length (x ∷ xs)
  by_test true l = omega arith
  by_test false l = omega (arith, l)

place_is : {X : Type 0} (p : X → Bool) (xs : List X) → unwrap_or (position p xs) (length xs) ≡ position_or_len p xs
place_is p xs = elim (cases_lt (position_or_len p xs) (length xs)) [
  | inl l ↦ ap (λ b. unwrap_or (cond b (Some (position_or_len p xs)) None) (length xs)) (lt-ltb (position_or_len p xs) (length xs) l)
  | inr l ↦ let most = at_most p xs in let is : length xs ≡ position_or_len p xs = omega (arith, l, most) in ap (λ b. unwrap_or (cond b (Some (position_or_len p xs)) None) (length xs)) (le-ltb (position_or_len p xs) (length xs) l) ∙ is
]

slice_get_at : {X : Type 0} (xs : List X) (i : ℕ) (d : X) → i < length xs → slice_get xs i ≡ Some (get_or xs i d)
slice_get_at [] i d l = absurd (omega (arith, l))
slice_get_at (x ∷ xs) zero d l = refl
slice_get_at (x ∷ xs) (suc i) d l = slice_get_at xs i d (omega (arith, l))

slice_get_past : {X : Type 0} (xs : List X) (i : ℕ) → length xs ≤ i → slice_get xs i ≡ None
slice_get_past [] i l = refl
slice_get_past (x ∷ xs) zero l = absurd (omega (arith, l))
slice_get_past (x ∷ xs) (suc i) l = slice_get_past xs i (omega (arith, l))

module _ (all : List Style) (distinct : AreDistinct all) (d : Style) where
  abbrev parents : List (Option ℕ)
  parents = map (parent_in all) all

  abbrev style_at : ℕ → Style
  style_at at = get_or all at d

  abbrev place : Family → List ℕ → ℕ
  place of name = position_or_len (is_named of name) all

  many : length parents ≡ length all
  many = length-map all (parent_in all)

  -- the parent of a style by its place
  parent_at : (at : ℕ) → at < length all → parent_of parents at ≡ place (style_at at).family (style_at at).parent
  parent_at at l =
      ap₂ (λ (o : Option ℕ) (n : ℕ). unwrap_or o n) (get_or-map (parent_in all) all at d None l) many
      ∙ place_is (is_named (style_at at).family (style_at at).parent) all

  no_parent : (at : ℕ) → length all ≤ at → parent_of parents at ≡ length all
  no_parent at l = let m = many in ap₂ (λ (o : Option ℕ) (n : ℕ). unwrap_or o n) (get_or_past parents at None (omega (arith, m, l))) many

  never_in : (steps at : ℕ) → length all ≤ at → length all ≤ ancestor parents steps at
  never_in zero at l = l
  never_in (suc steps) at l = let e = no_parent at l in never_in steps (parent_of parents at) (omega (arith, e))

  -- a style stands where its family and name are found
  own_place : (at : ℕ) → at < length all → place (style_at at).family (style_at at).name ≡ at
  own_place at l = only_one (is_named (style_at at).family (style_at at).name) all at d (distinct (style_at at).family (style_at at).name) l (ap₂ (λ a b. a && b) (family_self (style_at at).family) (bytes_self (style_at at).name))

  -- what is found has the family and name
  named_at : (of : Family) (name : List ℕ) → place of name < length all → ((style_at (place of name)).family ≡ of) × ((style_at (place of name)).name ≡ name)
  named_at of name l =
      let both = and_parts (is_same_family (style_at (place of name)).family of) (bytes_eq (style_at (place of name)).name name) (passes_at_first (is_named of name) all d l) in
      (family_same (style_at (place of name)).family of both.0, bytes_same (style_at (place of name)).name name both.1)

  -- whether a name is met from another one on
  abbrev meets : ℕ → Family → List ℕ → List ℕ → Bool
  meets most of name wanted = list_any (λ met. bytes_eq met wanted) (name ∷ map (λ style. style.parent) (lineage_of most all of name))

  abbrev Reaches : ℕ → ℕ → ℕ → Type 0
  Reaches most from at = (steps : ℕ) × (steps ≤ most) × (ancestor parents steps from ≡ at)

  module _ (at : ℕ) (l : at < length all) where
    abbrev of : Family
    of = (style_at at).family

    abbrev wanted : List ℕ
    wanted = (style_at at).name

    -- a name is the style's where its place is
    here : (name : List ℕ) → Decides (bytes_eq name wanted) (place of name ≡ at)
    here name = (
      λ e. ap (place of) (bytes_same name wanted e) ∙ own_place at l,
      λ e. ap (bytes_eq name) (subst (λ (n : ℕ). (style_at n).name ≡ name) e (named_at of name (omega (arith, e, l))).1) ∙ bytes_self name,
    )

    or_none : (b : Bool) → (b || false) ≡ b
    or_none true = refl
    or_none false = refl

    -- where no style of a name is there
    absent : (most : ℕ) (name : List ℕ) → length all ≤ place of name → lineage_of (suc most) all of name ≡ []
    absent most name past =
        ap (λ (o : Option Style). option_map_or (λ style. style ∷ lineage_of most all of style.parent) o []) (find_at (is_named of name) all ∙ slice_get_past all (place of name) past)

    present : (most : ℕ) (name : List ℕ) → place of name < length all → lineage_of (suc most) all of name ≡ style_at (place of name) ∷ lineage_of most all of (style_at (place of name)).parent
    present most name inside =
        ap (λ (o : Option Style). option_map_or (λ style. style ∷ lineage_of most all of style.parent) o []) (find_at (is_named of name) all ∙ slice_get_at all (place of name) d inside)

    abbrev parent_after : List ℕ → List ℕ
    parent_after name = (style_at (place of name)).parent

    first_step : (most : ℕ) (name : List ℕ) → bytes_eq name wanted ≡ true → Reaches most (place of name) at
    first_step most name e = (0, omega arith, (here name).0 e)

    reaches : (most : ℕ) (name : List ℕ) → Decides (meets most of name wanted) (Reaches most (place of name) at)
    reaches zero name = (λ e. first_step zero name (sym (or_none (bytes_eq name wanted)) ∙ e), λ r. or_none (bytes_eq name wanted) ∙ (here name).1 (no_step r.0 r.1 r.2)) where
      no_step : (steps : ℕ) → steps ≤ 0 → ancestor parents steps (place of name) ≡ at → place of name ≡ at
      no_step zero few e = e
      no_step (suc steps) few e = absurd (omega (arith, few))
    reaches (suc most) name = elim (cases_lt (place of name) (length all)) [
      | inr past ↦ (
        λ e. first_step (suc most) name (sym (or_none (bytes_eq name wanted)) ∙ sym (ap (λ (some : List Style). list_any (λ met. bytes_eq met wanted) (name ∷ map (λ style. style.parent) some)) (absent most name past)) ∙ e),
        λ r. let out = never_in r.0 (place of name) past in let is = r.2 in absurd (omega (arith, out, is, l)),
      )
      | inl inside ↦ further (reaches most (style_at (place of name)).parent) inside
    ] where
      up : place of name < length all → parent_of parents (place of name) ≡ place of (parent_after name)
      up inside = parent_at (place of name) inside ∙ ap (λ (f : Family). place f (parent_after name)) (named_at of name inside).0

      opens : place of name < length all → meets (suc most) of name wanted ≡ (bytes_eq name wanted || meets most of (parent_after name) wanted)
      opens inside = ap (λ (some : List Style). list_any (λ met. bytes_eq met wanted) (name ∷ map (λ style. style.parent) some)) (present most name inside)

      further : Decides (meets most of (parent_after name) wanted) (Reaches most (place of (parent_after name)) at) → place of name < length all → Decides (meets (suc most) of name wanted) (Reaches (suc most) (place of name) at)
      further rest inside = (λ e. forth (bytes_eq name wanted) refl (sym (opens inside) ∙ e), λ r. opens inside ∙ back r.0 r.1 r.2) where
        forth : (b : Bool) → bytes_eq name wanted ≡ b → (bytes_eq name wanted || meets most of (parent_after name) wanted) ≡ true → Reaches (suc most) (place of name) at
        forth true e any = first_step (suc most) name e
        forth false e any =
            let r = rest.0 (sym (ap (λ b. b || meets most of (parent_after name) wanted) e) ∙ any) in
            let few = r.1 in
            (suc r.0, omega (arith, few), ap (ancestor parents r.0) (up inside) ∙ r.2)

        or_true : (b : Bool) → (b || true) ≡ true
        or_true true = refl
        or_true false = refl

        back : (steps : ℕ) → steps ≤ suc most → ancestor parents steps (place of name) ≡ at → (bytes_eq name wanted || meets most of (parent_after name) wanted) ≡ true
        back zero few e = ap (λ b. b || meets most of (parent_after name) wanted) ((here name).1 e)
        back (suc steps) few e =
            ap (λ b. bytes_eq name wanted || b) (rest.1 (steps, omega (arith, few), ap (ancestor parents steps) (sym (up inside)) ∙ e)) ∙ or_true (bytes_eq name wanted)

    -- a style loops where it is its own ancestor
    loops_where : Decides (loops all (style_at at)) (IsOwnAncestor parents at)
    loops_where =
        let r = reaches (length all) (style_at at).parent in
        let m = many in (
          λ e. let found = r.0 e in let few = found.1 in (found.0, omega (arith, few, m), ap (ancestor parents found.0) (parent_at at l) ∙ found.2),
          λ own. let few = own.1 in r.1 (own.0, omega (arith, few, m), ap (ancestor parents own.0) (sym (parent_at at l)) ∙ own.2),
        )

    pub flag_is : (flag : Bool) → Decides flag (IsOwnAncestor parents at) → flag ≡ loops all (style_at at)
    flag_is flag decides = same_from_decides flag (loops all (style_at at)) decides loops_where

-- flags that tell which are their own ancestors
pub flags_are : (all : List Style) (flags : List Bool) → AreDistinct all → length flags ≡ length (map (parent_in all) all)
    → ((at : ℕ) → at < length (map (parent_in all) all) → Decides (get_or flags at false) (IsOwnAncestor (map (parent_in all) all) at)) → flags ≡ map (loops all) all
flags_are [] [] distinct size exact = refl
flags_are [] (flag ∷ flags) distinct size exact = absurd (omega (arith, size))
flags_are (style ∷ styles) flags distinct size exact =
    let all = style ∷ styles in
    let m : length (map (parent_in all) all) ≡ length all = length-map all (parent_in all) in
    let k : length (map (loops all) all) ≡ length all = length-map all (loops all) in
    same_lists flags (map (loops all) all) (omega (arith, size, m, k)) (λ at e l.
    let inside : at < length all = omega (arith, l, size, m) in
    get_or_default flags at e false l ∙ flag_is all distinct style at inside (get_or flags at false) (exact at (omega (arith, inside, m))) ∙ sym (get_or-map (loops all) all at style e inside))

-- what is told of the style of a family and name
flags_at : {X : Type 0} (test : X → Bool) (xs : List X) (at : ℕ) → option_map_or test (slice_get xs at) false ≡ get_or (map test xs) at false
flags_at test [] at = refl
flags_at test (x ∷ xs) zero = refl
flags_at test (x ∷ xs) (suc at) = flags_at test xs at

pub found_flag : (styles : List Style) (of : Family) (name : List ℕ) (at : ℕ) (flags : List Bool) → Some at ≡ position (is_named of name) styles → flags ≡ map (loops styles) styles
    → get_or flags at false ≡ option_map_or (loops styles) (style_named styles of name) false
found_flag styles of name at flags e is =
    ap (λ (some : List Bool). get_or some at false) is ∙ sym (flags_at (loops styles) styles at)
    ∙ ap (λ (o : Option Style). option_map_or (loops styles) o false) (ap (slice_get styles) place ∙ sym (find_at (is_named of name) styles)) where
      place : at ≡ position_or_len (is_named of name) styles
      place = elim (cases_lt (position_or_len (is_named of name) styles) (length styles)) [
        | inl l ↦ some_same (e ∙ ap (λ b. cond b (Some (position_or_len (is_named of name) styles)) None) (lt-ltb (position_or_len (is_named of name) styles) (length styles) l))
        | inr l ↦ absurd (some_none (e ∙ ap (λ b. cond b (Some (position_or_len (is_named of name) styles)) None) (le-ltb (position_or_len (is_named of name) styles) (length styles) l)))
      ] where
        some_same : Some at ≡ Some (position_or_len (is_named of name) styles) → at ≡ position_or_len (is_named of name) styles
        some_same f = cc

        some_none : Some at ≡ None → ⊥
        some_none f = cc

pub no_flag : (styles : List Style) (of : Family) (name : List ℕ) → None ≡ position (is_named of name) styles → false ≡ option_map_or (loops styles) (style_named styles of name) false
no_flag styles of name e = elim (cases_lt (position_or_len (is_named of name) styles) (length styles)) [
  | inl l ↦ absurd (none_some (e ∙ ap (λ b. cond b (Some (position_or_len (is_named of name) styles)) None) (lt-ltb (position_or_len (is_named of name) styles) (length styles) l)))
  | inr l ↦ sym (ap (λ (o : Option Style). option_map_or (loops styles) o false) (find_at (is_named of name) styles ∙ slice_get_past styles (position_or_len (is_named of name) styles) l))
] where
  none_some : None ≡ Some (position_or_len (is_named of name) styles) → ⊥
  none_some f = cc
