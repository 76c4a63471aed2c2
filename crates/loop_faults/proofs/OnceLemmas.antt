-- Things of which at most one passes a test.
use Rattle.std.proofs.Common.{◌≡◌, ℕ, ◌+◌, ◌≤◌, ◌⊎◌, inl, inr, not, Bool, true, false, cond, List, [], ◌∷◌, ◌++◌, length, refl, sym, ap, ap₂, ◌∙◌, subst, arith, Some}
use Rattle.std.specs.Prelude.{filter, find}
use Rattle.std.specs.List.{flat_map, list_any}
use Rattle.std.proofs.lemmas.Bool.{false≢true}
use Rattle.std.proofs.lemmas.List.{length-append}
use Rattle.std.proofs.lemmas.List.Elements.{filter-append}
use Rattle.load_model.specs.Left.{firsts}

-- one of some things
abbrev pub In : {X : Type 0} → X → List X → Type 0
In x [] = ⊥
In x (y ∷ ys) = (x ≡ y) ⊎ In x ys

pub in_front : {X : Type 0} (x : X) (xs ys : List X) → In x xs → In x (xs ++ ys)
in_front x [] ys h = absurd h
in_front x (y ∷ xs) ys (inl e) = inl e
in_front x (y ∷ xs) ys (inr h) = inr (in_front x xs ys h)

pub in_behind : {X : Type 0} (x : X) (xs ys : List X) → In x ys → In x (xs ++ ys)
in_behind x [] ys h = h
in_behind x (y ∷ xs) ys h = inr (in_behind x xs ys h)

pub in_filter : {X : Type 0} (test : X → Bool) (x : X) (xs : List X) → test x ≡ true → In x xs → In x (filter test xs)
in_filter test x [] passes h = absurd h
in_filter test x (y ∷ xs) passes (inl e) = subst (λ b. In x (cond b (y ∷ filter test xs) (filter test xs))) (sym (ap test (sym e) ∙ passes)) (inl e)
in_filter test x (y ∷ xs) passes (inr h) = by_test (test y) (in_filter test x xs passes h) where
  by_test : (b : Bool) → In x (filter test xs) → In x (cond b (y ∷ filter test xs) (filter test xs))
  by_test true there = inr there
  by_test false there = there

pub in_flat_map : {X Y : Type 0} (f : X → List Y) (x : X) (y : Y) (xs : List X) → In x xs → In y (f x) → In y (flat_map f xs)
in_flat_map f x y [] h there = absurd h
in_flat_map {X} f x y (z ∷ xs) (inl e) there = in_front y (f z) (flat_map f xs) (subst (λ (w : X). In y (f w)) e there)
in_flat_map f x y (z ∷ xs) (inr h) there = in_behind y (f z) (flat_map f xs) (in_flat_map f x y xs h there)

-- where one passes there is one
passes_in : {X : Type 0} (test : X → Bool) (x : X) (xs : List X) → test x ≡ true → In x xs → 1 ≤ length (filter test xs)
passes_in {X} test x xs passes h = by_list (filter test xs) (in_filter test x xs passes h) where
  by_list : (ys : List X) → In x ys → 1 ≤ length ys
  by_list [] there = absurd there
  by_list (y ∷ ys) there = omega arith

-- the only one that passes is found
pub find_once : {X : Type 0} (test : X → Bool) (x : X) (xs : List X) → length (filter test xs) ≤ 1 → test x ≡ true → In x xs → find test xs ≡ Some x
find_once test x [] few passes h = absurd h
find_once test x (y ∷ xs) few passes (inl e) = ap (λ b. cond b (Some y) (find test xs)) (ap test (sym e) ∙ passes) ∙ ap (λ z. Some z) (sym e)
find_once test x (y ∷ xs) few passes (inr h) = by_test (test y) few (λ rest. find_once test x xs rest passes h) where
  by_test : (b : Bool) → length (cond b (y ∷ filter test xs) (filter test xs)) ≤ 1 → (length (filter test xs) ≤ 1 → find test xs ≡ Some x) → cond b (Some y) (find test xs) ≡ Some x
  by_test true all found = let more = passes_in test x xs passes h in absurd (omega (arith, all, more))
  by_test false all found = found all

-- of the first ones of things that are the same where both pass, at most one passes
none_left : {X : Type 0} (test keep : X → Bool) (xs : List X) → ((x : X) → test x ≡ true → keep x ≡ false) → filter test (filter keep xs) ≡ []
none_left test keep [] h = refl
none_left test keep (x ∷ xs) h = by_test (keep x) refl (test x) refl (none_left test keep xs h) where
  by_test : (k : Bool) → keep x ≡ k → (t : Bool) → test x ≡ t → filter test (filter keep xs) ≡ [] → filter test (cond k (x ∷ filter keep xs) (filter keep xs)) ≡ []
  by_test false e t f rest = rest
  by_test true e true f rest = absurd (false≢true (sym (h x f) ∙ e))
  by_test true e false f rest = ap (λ b. cond b (x ∷ filter test (filter keep xs)) (filter test (filter keep xs))) f ∙ rest

fewer : {X : Type 0} (test keep : X → Bool) (xs : List X) → length (filter test (filter keep xs)) ≤ length (filter test xs)
fewer test keep [] = omega arith
fewer test keep (x ∷ xs) = by_test (keep x) (test x) refl (fewer test keep xs) where
  by_test : (k t : Bool) → test x ≡ t → length (filter test (filter keep xs)) ≤ length (filter test xs) → length (filter test (cond k (x ∷ filter keep xs) (filter keep xs))) ≤ length (cond t (x ∷ filter test xs) (filter test xs))
  by_test false true e rest = omega (arith, rest)
  by_test false false e rest = rest
  by_test true true e rest = let here = ap (λ b. length (cond b (x ∷ filter test (filter keep xs)) (filter test (filter keep xs)))) e in omega (arith, here, rest)
  by_test true false e rest = let here = ap (λ b. length (cond b (x ∷ filter test (filter keep xs)) (filter test (filter keep xs)))) e in omega (arith, here, rest)

pub firsts_once : {X : Type 0} (same : X → X → Bool) (test : X → Bool) (xs : List X) → ((x y : X) → test x ≡ true → test y ≡ true → same x y ≡ true) → length (filter test (firsts same xs)) ≤ 1
firsts_once same test [] h = omega arith
firsts_once {X} same test (x ∷ xs) h = by_test (test x) refl (firsts_once same test xs h) where
  rest : List X
  rest = filter (λ other. not (same x other)) (firsts same xs)

  by_test : (t : Bool) → test x ≡ t → length (filter test (firsts same xs)) ≤ 1 → length (cond t (x ∷ filter test rest) (filter test rest)) ≤ 1
  by_test true e few = let none = ap (λ (some : List X). length some) (none_left test (λ other. not (same x other)) (firsts same xs) (λ y f. ap not (h x y e f))) in omega (arith, none)
  by_test false e few = let less = fewer test (λ other. not (same x other)) (firsts same xs) in omega (arith, less, few)

-- in two parts
pub parted : {X : Type 0} (test half : X → Bool) (xs : List X) → length (filter test (filter (λ x. not (half x)) xs)) + length (filter test (filter half xs)) ≡ length (filter test xs)
parted test half [] = refl
parted {X} test half (x ∷ xs) = by_test (half x) (test x) refl (parted test half xs) where
  plain : List X
  plain = filter (λ x. not (half x)) xs

  other : List X
  other = filter half xs

  by_test : (h t : Bool) → test x ≡ t → length (filter test plain) + length (filter test other) ≡ length (filter test xs)
      → length (filter test (cond (not h) (x ∷ plain) plain)) + length (filter test (cond h (x ∷ other) other)) ≡ length (cond t (x ∷ filter test xs) (filter test xs))
  by_test true true e rest = let here = ap (λ b. length (cond b (x ∷ filter test other) (filter test other))) e in omega (arith, here, rest)
  by_test true false e rest = let here = ap (λ b. length (cond b (x ∷ filter test other) (filter test other))) e in omega (arith, here, rest)
  by_test false true e rest = let here = ap (λ b. length (cond b (x ∷ filter test plain) (filter test plain))) e in omega (arith, here, rest)
  by_test false false e rest = let here = ap (λ b. length (cond b (x ∷ filter test plain) (filter test plain))) e in omega (arith, here, rest)

-- of what things of at most one each give, as many pass as things give one that passes
pub each_one : {X Y : Type 0} (f : X → List Y) (test : Y → Bool) → ((x : X) → length (filter test (f x)) ≡ cond (list_any test (f x)) 1 0) → (xs : List X)
    → length (filter test (flat_map f xs)) ≡ length (filter (λ x. list_any test (f x)) xs)
each_one f test single [] = refl
each_one {X} {Y} f test single (x ∷ xs) =
    ap (λ (some : List Y). length some) (filter-append test (f x) (flat_map f xs)) ∙ length-append (filter test (f x)) (filter test (flat_map f xs))
    ∙ ap₂ (λ (a b : ℕ). a + b) (single x) (each_one f test single xs) ∙ by_test (list_any test (f x)) where
      rest : List X
      rest = filter (λ x. list_any test (f x)) xs

      by_test : (b : Bool) → cond b 1 0 + length rest ≡ length (cond b (x ∷ rest) rest)
      by_test true = omega arith
      by_test false = omega arith
