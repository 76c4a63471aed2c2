-- Whether a test finds something in lists of lists.
use Rattle.std.proofs.Common.{◌≡◌, ℕ, Bool, true, false, List, [], ◌∷◌, ◌++◌, map, refl, ap, ap₂, sym, ◌∙◌}
use Rattle.std.specs.Prelude.{◌||◌, find, is_some, option_map}
use Rattle.std.specs.List.{AllByRecursion as Each, flat_map, list_any}
use Rattle.std.specs.Str.{bytes_eq}
use Rattle.std.proofs.lemmas.List.Folds.{list_any-append}
use Rattle.std.proofs.lemmas.Slice.Eq.{bytes_eq-Decides}

pub any_flat : {X Y : Type 0} (p : Y → Bool) (f : X → List Y) (xs : List X) → list_any p (flat_map f xs) ≡ list_any (λ x. list_any p (f x)) xs
any_flat p f [] = refl
any_flat p f (x ∷ xs) = list_any-append p (f x) (flat_map f xs) ∙ ap (λ b. list_any p (f x) || b) (any_flat p f xs)

pub any_map : {X Y : Type 0} (p : Y → Bool) (f : X → Y) (xs : List X) → list_any p (map f xs) ≡ list_any (λ x. p (f x)) xs
any_map p f [] = refl
any_map p f (x ∷ xs) = ap (λ b. p (f x) || b) (any_map p f xs)

pub any_same : {X : Type 0} (p q : X → Bool) → ((x : X) → p x ≡ q x) → (xs : List X) → list_any p xs ≡ list_any q xs
any_same p q same [] = refl
any_same p q same (x ∷ xs) = ap₂ (λ a b. a || b) (same x) (any_same p q same xs)

pub found_any : {X Y : Type 0} (p : X → Bool) (f : X → Y) (xs : List X) → is_some (option_map f (find p xs)) ≡ list_any p xs
found_any p f [] = refl
found_any p f (x ∷ xs) = by_case (p x) refl (found_any p f xs) where
  by_case : (b : Bool) → p x ≡ b → is_some (option_map f (find p xs)) ≡ list_any p xs → is_some (option_map f (find p (x ∷ xs))) ≡ list_any p (x ∷ xs)
  by_case true is rest = rw is refl
  by_case false is rest = rw is rest

either : (a b : Bool) → (a ≡ true → b ≡ true) → (b ≡ true → a ≡ true) → a ≡ b
either true true there back = refl
either false false there back = refl
either true false there back = sym (there refl)
either false true there back = back refl

pub eq_turned : (one other : List ℕ) → bytes_eq one other ≡ bytes_eq other one
eq_turned one other = either (bytes_eq one other) (bytes_eq other one) (λ is. (bytes_eq-Decides other one).1 (sym ((bytes_eq-Decides one other).0 is))) (λ is. (bytes_eq-Decides one other).1 (sym ((bytes_eq-Decides other one).0 is)))

pub or_swap : (a b c : Bool) → (a || (b || c)) ≡ (b || (a || c))
or_swap true true c = refl
or_swap true false c = refl
or_swap false true c = refl
or_swap false false c = refl

-- parts of a list of which each has something
pub each_front : {X : Type 0} (P : X → Type 0) (xs ys : List X) → Each P (xs ++ ys) → Each P xs
each_front P [] ys each = tt
each_front P (x ∷ xs) ys each = (each.0, each_front P xs ys each.1)

pub each_rest : {X : Type 0} (P : X → Type 0) (xs ys : List X) → Each P (xs ++ ys) → Each P ys
each_rest P [] ys each = each
each_rest P (x ∷ xs) ys each = each_rest P xs ys each.1
