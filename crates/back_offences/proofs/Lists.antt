-- Lists that are long enough for no offence.
use Rattle.std.proofs.Common.{◌≡◌, ℕ, ◌+◌, ◌≤◌, ◌<◌, suc, zero, not, Bool, true, false, cond, List, [], ◌∷◌, ◌++◌, length, filter, take, find, refl, ap, ap₂, ◌∙◌, subst, arith, slice_index_or, length-append, Some, None}
use Rattle.std.specs.List.{flat_map, Any, AllByRecursion as Each}
use Rattle.std.proofs.lemmas.List.{drop_all}
use Rattle.doc_model.specs.declared.refusal.Limit.{Limit}
use Rattle.doc_model.specs.Limits.{limit_number}
use Rattle.load_model.specs.Left.{firsts}
use Rattle.load_model.specs.Offences.{beyond}

-- none of some places is beyond a limit that they don't pass
pub none_beyond : (limit : Limit) (places : List ℕ) → length places ≤ limit_number limit → beyond limit places ≡ []
none_beyond limit places few = ap (take 1) (drop_all (limit_number limit) places few)

-- what is filtered is no more than it was
pub few_filter : {X : Type 0} (test : X → Bool) (xs : List X) → length (filter test xs) ≤ length xs
few_filter test [] = omega arith
few_filter test (x ∷ xs) = by_test (test x) (few_filter test xs) where
  by_test : (b : Bool) → length (filter test xs) ≤ length xs → length (cond b (x ∷ filter test xs) (filter test xs)) ≤ length (x ∷ xs)
  by_test true few = omega (arith, few)
  by_test false few = omega (arith, few)

-- the first ones of some are no more than they
pub few_firsts : {X : Type 0} (same : X → X → Bool) (xs : List X) → length (firsts same xs) ≤ length xs
few_firsts same [] = omega arith
few_firsts same (x ∷ xs) = let filtered = few_filter (λ other. not (same x other)) (firsts same xs) in let rest = few_firsts same xs in omega (arith, filtered, rest)

-- each that is filtered passes the test
pub each_passes : {X : Type 0} (test : X → Bool) (xs : List X) → Each (λ x. test x ≡ true) (filter test xs)
each_passes test [] = tt
each_passes test (x ∷ xs) = by_test (test x) refl (each_passes test xs) where
  by_test : (b : Bool) → test x ≡ b → Each (λ y. test y ≡ true) (filter test xs) → Each (λ y. test y ≡ true) (cond b (x ∷ filter test xs) (filter test xs))
  by_test true is rest = (is, rest)
  by_test false is rest = rest

-- what holds of each holds of those that are filtered
pub each_filter : {X : Type 0} (P : X → Type 0) (test : X → Bool) (xs : List X) → Each P xs → Each P (filter test xs)
each_filter P test [] each = tt
each_filter P test (x ∷ xs) each = by_test (test x) (each_filter P test xs each.1) where
  by_test : (b : Bool) → Each P (filter test xs) → Each P (cond b (x ∷ filter test xs) (filter test xs))
  by_test true rest = (each.0, rest)
  by_test false rest = rest

-- and of the first ones
pub each_firsts : {X : Type 0} (P : X → Type 0) (same : X → X → Bool) (xs : List X) → Each P xs → Each P (firsts same xs)
each_firsts P same [] each = tt
each_firsts P same (x ∷ xs) each = (each.0, each_filter P (λ other. not (same x other)) (firsts same xs) (each_firsts P same xs each.1))

-- what holds of those that are filtered by a test and of the others holds of each
pub each_halves : {X : Type 0} (P : X → Type 0) (test : X → Bool) (xs : List X) → Each P (filter (λ x. not (test x)) xs) → Each P (filter test xs) → Each P xs
each_halves P test [] plain other = tt
each_halves P test (x ∷ xs) plain other = by_test (test x) plain other (each_halves P test xs) where
  by_test : (b : Bool) → Each P (cond (not b) (x ∷ filter (λ y. not (test y)) xs) (filter (λ y. not (test y)) xs)) → Each P (cond b (x ∷ filter test xs) (filter test xs))
      → (Each P (filter (λ y. not (test y)) xs) → Each P (filter test xs) → Each P xs) → Each P (x ∷ xs)
  by_test true plain other rest = (other.0, rest plain other.1)
  by_test false plain other rest = (plain.0, rest plain.1 other)

-- two lists of which something holds of each
pub each_append : {X : Type 0} (P : X → Type 0) (xs ys : List X) → Each P xs → Each P ys → Each P (xs ++ ys)
each_append P [] ys one other = other
each_append P (x ∷ xs) ys one other = (one.0, each_append P xs ys one.1 other)

-- lists that are joined
pub each_flat : {X Y : Type 0} (P : Y → Type 0) (f : X → List Y) (xs : List X) → Each (λ x. Each P (f x)) xs → Each P (flat_map f xs)
each_flat P f [] each = tt
each_flat P f (x ∷ xs) each = each_append P (f x) (flat_map f xs) each.0 (each_flat P f xs each.1)

-- nothing is joined where each gives nothing
pub none_flat : {X Y : Type 0} (f : X → List Y) (xs : List X) → Each (λ x. f x ≡ []) xs → flat_map f xs ≡ []
none_flat f [] each = refl
none_flat f (x ∷ xs) each = ap₂ (λ (front more : List _). front ++ more) each.0 (none_flat f xs each.1)

-- nothing is filtered where none passes
pub none_filter : {X : Type 0} (test : X → Bool) (xs : List X) → Each (λ x. test x ≡ false) xs → filter test xs ≡ []
none_filter test [] each = refl
none_filter test (x ∷ xs) each = ap (λ (b : Bool). cond b (x ∷ filter test xs) (filter test xs)) each.0 ∙ none_filter test xs each.1

-- where each gives one, as many are joined
pub one_each : {X Y : Type 0} (f : X → List Y) (xs : List X) → Each (λ x. length (f x) ≡ 1) xs → length (flat_map f xs) ≡ length xs
one_each f [] each = refl
one_each f (x ∷ xs) each = let size = length-append (f x) (flat_map f xs) in let here = each.0 in let rest = one_each f xs each.1 in omega (arith, size, here, rest)

-- as many are filtered by a test or the other way
pub both_halves : {X : Type 0} (test : X → Bool) (xs : List X) → length (filter test xs) + length (filter (λ x. not (test x)) xs) ≡ length xs
both_halves test [] = omega arith
both_halves test (x ∷ xs) = by_test (test x) (both_halves test xs) where
  by_test : (b : Bool) → length (filter test xs) + length (filter (λ y. not (test y)) xs) ≡ length xs
      → length (cond b (x ∷ filter test xs) (filter test xs)) + length (cond (not b) (x ∷ filter (λ y. not (test y)) xs) (filter (λ y. not (test y)) xs)) ≡ length (x ∷ xs)
  by_test true rest = omega (arith, rest)
  by_test false rest = omega (arith, rest)

-- what is known of each by its place is known of each
pub each_there : {X : Type 0} (P : X → Type 0) (xs : List X) → ((x : X) → Any (λ other. other ≡ x) xs → P x) → Each P xs
each_there P [] all = tt
each_there P (x ∷ xs) all = (all x (0, x, omega arith, refl, refl), each_there P xs (λ y there. all y (suc there.0, there.1, omega (arith, there.2), there.3, there.4)))

-- what holds of each holds of one that is among them
pub at_one : {X : Type 0} (P : X → Type 0) (xs : List X) (x : X) → Any (λ other. other ≡ x) xs → Each P xs → P x
at_one P xs x there each = subst P there.4 (at_place xs there.0 there.1 there.2 there.3 each) where
  at_place : (xs : List _) (at : ℕ) (d : _) → at < length xs → slice_index_or xs at d ≡ d → Each P xs → P d
  at_place [] at d l is each = absurd (omega (arith, l))
  at_place (y ∷ ys) zero d l is each = subst P is each.0
  at_place (y ∷ ys) (suc at) d l is each = at_place ys at d (omega (arith, l)) is each.1

-- what is found among some passes and is one of them
pub found_there : {X : Type 0} (test : X → Bool) (xs : List X) (x : X) → find test xs ≡ Some x → (test x ≡ true) × Any (λ other. other ≡ x) xs
found_there test [] x e = absurd (none_some e) where
  none_some : None ≡ Some x → ⊥
  none_some e = cc
found_there test (y ∷ ys) x e = by_test (test y) refl e (found_there test ys x) where
  some_same : Some y ≡ Some x → y ≡ x
  some_same e = cc

  by_test : (b : Bool) → test y ≡ b → cond b (Some y) (find test ys) ≡ Some x → (find test ys ≡ Some x → (test x ≡ true) × Any (λ other. other ≡ x) ys) → (test x ≡ true) × Any (λ other. other ≡ x) (y ∷ ys)
  by_test true is e rest = (subst (λ z. test z ≡ true) (some_same e) is, (0, x, omega arith, some_same e, refl))
  by_test false is e rest = let more = rest e in let there = more.1 in (more.0, (suc there.0, there.1, omega (arith, there.2), there.3, there.4))
