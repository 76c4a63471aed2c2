-- Finding and changing the one item of a list that passes a test, whose place is noted.
use Rattle.std.proofs.Common.{◌≡◌, ℕ, Bool, true, false, not, cond, if◌then◌else◌, List, [], ◌∷◌, map, filter, find, Option, Some, None, zero, suc, refl, ap, sym, ◌∙◌, slice_get, slice_set, remove, arith}
use Rattle.std.specs.Option.{option_map, option_and_then}
use Rattle.std.proofs.lemmas.Option.{none-some}
use Rattle.style_tree.proofs.Marks.{Marks, some_same}

module _ {X : Type 0} (test : X → Bool) where
  -- no item passes
  abbrev pub Nowhere : List X → Type 0
  Nowhere xs = (place : ℕ) → option_map test (slice_get xs place) ≡ Some true → ⊥

  -- the item at this place passes, and no other
  abbrev pub OnlyAt : List X → ℕ → X → Type 0
  OnlyAt xs at x = (slice_get xs at ≡ Some x) × (test x ≡ true) × ((place : ℕ) → option_map test (slice_get xs place) ≡ Some true → place ≡ at)

  head_false : (x : X) (xs : List X) → Nowhere (x ∷ xs) → test x ≡ false
  head_false x xs nowhere = by (test x) refl
    where
      by : (here : Bool) → test x ≡ here → test x ≡ false
      by true h = absurd (nowhere 0 (ap Some h))
      by false h = h

  later_head : (x : X) (xs : List X) (at : ℕ) (y : X) → OnlyAt (x ∷ xs) (suc at) y → test x ≡ false
  later_head x xs at y only = by (test x) refl
    where
      by : (here : Bool) → test x ≡ here → test x ≡ false
      by true h =
          let e : 0 ≡ suc at = only.2 0 (ap Some h) in
          absurd (omega (arith, e))
      by false h = h

  later : (x : X) (xs : List X) (at : ℕ) (y : X) → OnlyAt (x ∷ xs) (suc at) y → OnlyAt xs at y
  later x xs at y only = (only.0, only.1, λ place mark. (let e = only.2 (suc place) mark in omega (arith, e)))

  rest_nowhere : (x : X) (xs : List X) (y : X) → OnlyAt (x ∷ xs) 0 y → Nowhere xs
  rest_nowhere x xs y only place mark =
      let e : suc place ≡ 0 = only.2 (suc place) mark in
      omega (arith, e)

  pub find_nowhere : (xs : List X) → Nowhere xs → find test xs ≡ None
  find_nowhere [] nowhere = refl
  find_nowhere (x ∷ xs) nowhere = ap (λ here. cond here (Some x) (find test xs)) (head_false x xs nowhere) ∙ find_nowhere xs (λ place. nowhere (suc place))

  pub find_only : (xs : List X) (at : ℕ) (y : X) → OnlyAt xs at y → find test xs ≡ Some y
  find_only [] at y only = absurd (none-some y only.0)
  find_only (x ∷ xs) zero y only = ap (λ here. cond here (Some x) (find test xs)) (ap test (some_same x y only.0) ∙ only.1) ∙ only.0
  find_only (x ∷ xs) (suc at) y only = ap (λ here. cond here (Some x) (find test xs)) (later_head x xs at y only) ∙ find_only xs at y (later x xs at y only)

  pub map_nowhere : (change : X → X) (xs : List X) → Nowhere xs → map (λ x. if test x then change x else x) xs ≡ xs
  map_nowhere change [] nowhere = refl
  map_nowhere change (x ∷ xs) nowhere = ap (λ here. (if here then change x else x) ∷ map (λ x. if test x then change x else x) xs) (head_false x xs nowhere) ∙ ap (λ rest. x ∷ rest) (map_nowhere change xs (λ place. nowhere (suc place)))

  pub map_only : (change : X → X) (xs : List X) (at : ℕ) (y : X) → OnlyAt xs at y → map (λ x. if test x then change x else x) xs ≡ slice_set xs at (change y)
  map_only change [] at y only = absurd (none-some y only.0)
  map_only change (x ∷ xs) zero y only =
      let same = some_same x y only.0 in
      ap (λ here. (if here then change x else x) ∷ map (λ x. if test x then change x else x) xs) (ap test same ∙ only.1) ∙ ap (λ rest. change x ∷ rest) (map_nowhere change xs (rest_nowhere x xs y only)) ∙ ap (λ x. change x ∷ xs) same
  map_only change (x ∷ xs) (suc at) y only = ap (λ here. (if here then change x else x) ∷ map (λ x. if test x then change x else x) xs) (later_head x xs at y only) ∙ ap (λ rest. x ∷ rest) (map_only change xs at y (later x xs at y only))

  pub filter_nowhere : (xs : List X) → Nowhere xs → filter (λ x. not (test x)) xs ≡ xs
  filter_nowhere [] nowhere = refl
  filter_nowhere (x ∷ xs) nowhere = ap (λ here. cond (not here) (x ∷ filter (λ x. not (test x)) xs) (filter (λ x. not (test x)) xs)) (head_false x xs nowhere) ∙ ap (λ rest. x ∷ rest) (filter_nowhere xs (λ place. nowhere (suc place)))

  pub filter_only : (xs : List X) (at : ℕ) (y : X) → OnlyAt xs at y → filter (λ x. not (test x)) xs ≡ remove xs at
  filter_only [] at y only = absurd (none-some y only.0)
  filter_only (x ∷ xs) zero y only = ap (λ here. cond (not here) (x ∷ filter (λ x. not (test x)) xs) (filter (λ x. not (test x)) xs)) (ap test (some_same x y only.0) ∙ only.1) ∙ filter_nowhere xs (rest_nowhere x xs y only)
  filter_only (x ∷ xs) (suc at) y only = ap (λ here. cond (not here) (x ∷ filter (λ x. not (test x)) xs) (filter (λ x. not (test x)) xs)) (later_head x xs at y only) ∙ ap (λ rest. x ∷ rest) (filter_only xs at y (later x xs at y only))

  -- a note tells that no item passes, or where the only one stands
  pub only_noted : (xs : List X) (at : ℕ) (x : X) → Marks test xs (Some at) → slice_get xs at ≡ Some x → OnlyAt xs at x
  only_noted xs at x marks e = (e, some_same (test x) true (sym (ap (option_map test) e) ∙ (marks at).0 refl), λ place mark. sym (some_same at place ((marks place).1 mark)))

  -- what is found is what stands at the noted place
  pub find_noted : (xs : List X) (noted : Option ℕ) → Marks test xs noted → find test xs ≡ option_and_then (λ at. slice_get xs at) noted
  find_noted xs None marks = find_nowhere xs (λ place mark. none-some place ((marks place).1 mark))
  find_noted xs (Some at) marks = by (slice_get xs at) refl
    where
      by : (given : Option X) → slice_get xs at ≡ given → find test xs ≡ slice_get xs at
      by None e = absurd (none-some true (sym (ap (option_map test) e) ∙ (marks at).0 refl))
      by (Some x) e = find_only xs at x (only_noted xs at x marks e) ∙ sym e

  -- an item in the place of one that passes the same
  pub marks_set : (xs : List X) (at : ℕ) (x y : X) (noted : Option ℕ) → slice_get xs at ≡ Some x → test y ≡ test x → Marks test xs noted → Marks test (slice_set xs at y) noted
  marks_set xs at x y noted e same marks place =
      let is = set_same xs at x y place e same in
      (λ n. is ∙ (marks place).0 n, λ mark. (marks place).1 (sym is ∙ mark))
    where
      set_same : (xs : List X) (at : ℕ) (x y : X) (place : ℕ) → slice_get xs at ≡ Some x → test y ≡ test x → option_map test (slice_get (slice_set xs at y) place) ≡ option_map test (slice_get xs place)
      set_same [] at x y place e same = absurd (none-some x e)
      set_same (z ∷ zs) zero x y zero e same = ap Some (same ∙ ap test (sym (some_same z x e)))
      set_same (z ∷ zs) zero x y (suc place) e same = refl
      set_same (z ∷ zs) (suc at) x y zero e same = refl
      set_same (z ∷ zs) (suc at) x y (suc place) e same = set_same zs at x y place e same
