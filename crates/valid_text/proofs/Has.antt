-- What holds of some in a list.
use Rattle.std.proofs.Common.{◌≡◌, ℕ, ◌||◌, ◌⊎◌, inl, inr, Bool, true, false, cond, List, [], ◌∷◌, ◌++◌, map, filter, refl, ap, ◌∙◌, bytes_eq}
use Rattle.std.specs.List.{flat_map, AllByRecursion as Each, Any, list_any}
use Rattle.std.proofs.lemmas.List.Folds.{Any-from_list_any}
use Rattle.std.proofs.lemmas.Slice.Eq.{bytes_eq-Decides}
use Rattle.load_model.specs.Left.{is_one_of}

abbrev pub Has : {X : Type 0} → (X → Type 0) → List X → Type 0
Has P [] = ⊥
Has P (x ∷ xs) = P x ⊎ Has P xs

pub has_also : {X : Type 0} (P Q : X → Type 0) → ((x : X) → P x → Q x) → (xs : List X) → Has P xs → Has Q xs
has_also P Q step (x ∷ xs) (inl is) = inl (step x is)
has_also P Q step (x ∷ xs) (inr has) = inr (has_also P Q step xs has)
has_also P Q step [] has = absurd has

pub has_front : {X : Type 0} (P : X → Type 0) (xs ys : List X) → Has P xs → Has P (xs ++ ys)
has_front P (x ∷ xs) ys (inl is) = inl is
has_front P (x ∷ xs) ys (inr has) = inr (has_front P xs ys has)
has_front P [] ys has = absurd has

pub has_back : {X : Type 0} (P : X → Type 0) (xs ys : List X) → Has P ys → Has P (xs ++ ys)
has_back P [] ys has = has
has_back P (x ∷ xs) ys has = inr (has_back P xs ys has)

pub has_parts : {X : Type 0} (P : X → Type 0) (xs ys : List X) → Has P (xs ++ ys) → Has P xs ⊎ Has P ys
has_parts P [] ys has = inr has
has_parts P (x ∷ xs) ys (inl is) = inl (inl is)
has_parts P (x ∷ xs) ys (inr has) = by_parts (has_parts P xs ys has) where
  by_parts : Has P xs ⊎ Has P ys → Has P (x ∷ xs) ⊎ Has P ys
  by_parts (inl has) = inl (inr has)
  by_parts (inr has) = inr has

-- in what is made of each
pub has_made : {X Y : Type 0} (P : Y → Type 0) (f : X → List Y) (xs : List X) → Has (λ x. Has P (f x)) xs → Has P (flat_map f xs)
has_made P f (x ∷ xs) (inl is) = has_front P (f x) (flat_map f xs) is
has_made P f (x ∷ xs) (inr has) = has_back P (f x) (flat_map f xs) (has_made P f xs has)
has_made P f [] has = absurd has

pub has_source : {X Y : Type 0} (P : Y → Type 0) (f : X → List Y) (xs : List X) → Has P (flat_map f xs) → Has (λ x. Has P (f x)) xs
has_source P f [] has = absurd has
has_source P f (x ∷ xs) has = by_parts (has_parts P (f x) (flat_map f xs) has) (has_source P f xs) where
  by_parts : Has P (f x) ⊎ Has P (flat_map f xs) → (Has P (flat_map f xs) → Has (λ x. Has P (f x)) xs) → Has (λ x. Has P (f x)) (x ∷ xs)
  by_parts (inl is) more = inl is
  by_parts (inr has) more = inr (more has)

pub has_map : {X Y : Type 0} (P : Y → Type 0) (f : X → Y) (xs : List X) → Has (λ x. P (f x)) xs → Has P (map f xs)
has_map P f (x ∷ xs) (inl is) = inl is
has_map P f (x ∷ xs) (inr has) = inr (has_map P f xs has)
has_map P f [] has = absurd has

pub has_mapped : {X Y : Type 0} (P : Y → Type 0) (f : X → Y) (xs : List X) → Has P (map f xs) → Has (λ x. P (f x)) xs
has_mapped P f [] has = absurd has
has_mapped P f (x ∷ xs) (inl is) = inl is
has_mapped P f (x ∷ xs) (inr has) = inr (has_mapped P f xs has)

-- in those that pass a test, or in those that fail it
pub has_filter : {X : Type 0} (P : X → Type 0) (test : X → Bool) (xs : List X) → Has P xs → Has P (filter test xs) ⊎ Has (λ x. P x × (test x ≡ false)) xs
has_filter P test [] has = absurd has
has_filter P test (x ∷ xs) (inl is) = by_test (test x) refl where
  by_test : (b : Bool) → test x ≡ b → Has P (cond b (x ∷ filter test xs) (filter test xs)) ⊎ Has (λ x. P x × (test x ≡ false)) (x ∷ xs)
  by_test true e = inl (inl is)
  by_test false e = inr (inl (is, e))
has_filter P test (x ∷ xs) (inr has) = by_rest (test x) (has_filter P test xs has) where
  by_rest : (b : Bool) → Has P (filter test xs) ⊎ Has (λ x. P x × (test x ≡ false)) xs → Has P (cond b (x ∷ filter test xs) (filter test xs)) ⊎ Has (λ x. P x × (test x ≡ false)) (x ∷ xs)
  by_rest true (inl has) = inl (inr has)
  by_rest false (inl has) = inl has
  by_rest b (inr has) = inr (inr has)

pub has_filtered : {X : Type 0} (P : X → Type 0) (test : X → Bool) (xs : List X) → Has P (filter test xs) → Has (λ x. P x × (test x ≡ true)) xs
has_filtered P test [] has = absurd has
has_filtered P test (x ∷ xs) has = by_test (test x) refl has (has_filtered P test xs) where
  by_test : (b : Bool) → test x ≡ b → Has P (cond b (x ∷ filter test xs) (filter test xs)) → (Has P (filter test xs) → Has (λ x. P x × (test x ≡ true)) xs) → Has (λ x. P x × (test x ≡ true)) (x ∷ xs)
  by_test true e (inl is) more = inl (is, e)
  by_test true e (inr has) more = inr (more has)
  by_test false e has more = inr (more has)

-- with what holds of each
pub has_each : {X : Type 0} (P Q : X → Type 0) (R : Type 0) → ((x : X) → P x → Q x → R) → (xs : List X) → Each P xs → Has Q xs → R
has_each P Q R step [] each has = absurd has
has_each P Q R step (x ∷ xs) each (inl is) = step x each.0 is
has_each P Q R step (x ∷ xs) each (inr has) = has_each P Q R step xs each.1 has

-- by a test
either : (one more : Bool) → (one || more) ≡ true → (one ≡ true) ⊎ (more ≡ true)
either true more e = inl refl
either false more e = inr e

pub has_any : {X : Type 0} (test : X → Bool) (xs : List X) → list_any test xs ≡ true → Has (λ x. test x ≡ true) xs
has_any test [] e = absurd cc
has_any test (x ∷ xs) e = by_either (either (test x) (list_any test xs) e) (has_any test xs) where
  by_either : (test x ≡ true) ⊎ (list_any test xs ≡ true) → (list_any test xs ≡ true → Has (λ x. test x ≡ true) xs) → Has (λ x. test x ≡ true) (x ∷ xs)
  by_either (inl is) more = inl is
  by_either (inr is) more = inr (more is)

pub any_has : {X : Type 0} (test : X → Bool) (xs : List X) → Has (λ x. test x ≡ true) xs → list_any test xs ≡ true
any_has test [] has = absurd has
any_has test (x ∷ xs) (inl is) = ap (λ (b : Bool). b || list_any test xs) is
any_has test (x ∷ xs) (inr has) = ap (λ (b : Bool). test x || b) (any_has test xs has) ∙ either_true (test x) where
  either_true : (b : Bool) → (b || true) ≡ true
  either_true true = refl
  either_true false = refl

some_also : {X : Type 0} (P Q : X → Type 0) (xs : List X) → ((x : X) → P x → Q x) → Any P xs → Any Q xs
some_also P Q xs step any = (any.0, any.1, any.2, any.3, step any.1 any.4)

-- what a test decides
pub any_of : {X : Type 0} (P : X → Type 0) (test : X → Bool) → ((x : X) → P x → test x ≡ true) → ((x : X) → test x ≡ true → P x) → (xs : List X) → Has P xs → Any P xs
any_of P test one other xs has = some_also (λ x. test x ≡ true) P xs other (Any-from_list_any test xs (any_has test xs (has_also P (λ x. test x ≡ true) one xs has)))

-- names
pub any_name : (name : List ℕ) (names : List (List ℕ)) → Has (λ other. other ≡ name) names → Any (λ other. other ≡ name) names
any_name name names has = any_of (λ other. other ≡ name) (λ (other : List ℕ). bytes_eq other name) (λ other e. (bytes_eq-Decides other name).1 e) (λ other e. (bytes_eq-Decides other name).0 e) names has

pub has_one : (name : List ℕ) (names : List (List ℕ)) → is_one_of names name ≡ true → Has (λ other. other ≡ name) names
has_one name names e = has_also (λ (other : List ℕ). bytes_eq other name ≡ true) (λ other. other ≡ name) (λ other e. (bytes_eq-Decides other name).0 e) names (has_any (λ (other : List ℕ). bytes_eq other name) names e)
