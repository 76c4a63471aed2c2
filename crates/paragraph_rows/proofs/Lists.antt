-- Lists that are joined and changed.
use Rattle.std.proofs.Common.{◌≡◌, ℕ, ◌-◌, Bool, true, false, cond, List, [], ◌∷◌, ◌++◌, map, filter, take, drop, refl, ap, ap₂, sym, ◌∙◌}
use Rattle.std.specs.List.{between, flat_map, AllByRecursion as Each}
use Rattle.std.proofs.lemmas.Bool.{false≢true}
use Rattle.std.proofs.lemmas.List.{take-map, drop-map}
use Rattle.std.proofs.lemmas.List.Concat.{flat_map-append}

-- lists of lists joined
pub twice : {X Y Z : Type 0} (g : Y → List Z) (f : X → List Y) (xs : List X) → flat_map g (flat_map f xs) ≡ flat_map (λ x. flat_map g (f x)) xs
twice g f [] = refl
twice g f (x ∷ xs) = flat_map-append g (f x) (flat_map f xs) ∙ ap (λ zs. flat_map g (f x) ++ zs) (twice g f xs)

-- what is joined is the same
pub same_joined : {X Y : Type 0} (f g : X → List Y) → ((x : X) → f x ≡ g x) → (xs : List X) → flat_map f xs ≡ flat_map g xs
same_joined f g e [] = refl
same_joined f g e (x ∷ xs) = ap₂ (λ ys zs. ys ++ zs) (e x) (same_joined f g e xs)

pub same_mapped : {X Y : Type 0} (f g : X → Y) → ((x : X) → f x ≡ g x) → (xs : List X) → map f xs ≡ map g xs
same_mapped f g e [] = refl
same_mapped f g e (x ∷ xs) = ap₂ (λ y ys. y ∷ ys) (e x) (same_mapped f g e xs)

-- what was changed, joined
pub joined_map : {X Y Z : Type 0} (g : Y → List Z) (f : X → Y) (xs : List X) → flat_map g (map f xs) ≡ flat_map (λ x. g (f x)) xs
joined_map g f [] = refl
joined_map g f (x ∷ xs) = ap (λ zs. g (f x) ++ zs) (joined_map g f xs)

-- each of joined lists
pub each_front : {X : Type 0} (P : X → Type 0) (xs ys : List X) → Each P (xs ++ ys) → Each P xs
each_front P [] ys all = tt
each_front P (x ∷ xs) ys all = (all.0, each_front P xs ys all.1)

pub each_behind : {X : Type 0} (P : X → Type 0) (xs ys : List X) → Each P (xs ++ ys) → Each P ys
each_behind P [] ys all = all
each_behind P (x ∷ xs) ys all = each_behind P xs ys all.1

pub each_both : {X : Type 0} (P : X → Type 0) (xs ys : List X) → Each P xs → Each P ys → Each P (xs ++ ys)
each_both P [] ys front behind = behind
each_both P (x ∷ xs) ys front behind = (front.0, each_both P xs ys front.1 behind)

-- a range of what was changed
pub between_map : {X Y : Type 0} (f : X → Y) (from to : ℕ) (xs : List X) → between from to (map f xs) ≡ map f (between from to xs)
between_map f from to xs = ap (take (to - from)) (drop-map f from xs) ∙ take-map f (to - from) (drop from xs)

-- what is chosen of what was changed
pub filter_map : {X Y : Type 0} (f : X → Y) (test : X → Bool) (other : Y → Bool) → ((x : X) → other (f x) ≡ test x) → (xs : List X) → map f (filter test xs) ≡ filter other (map f xs)
filter_map f test other e [] = refl
filter_map f test other e (x ∷ xs) = by_test (test x) (other (f x)) (e x) (filter_map f test other e xs) where
  by_test : (one two : Bool) → two ≡ one → map f (filter test xs) ≡ filter other (map f xs) → map f (cond one (x ∷ filter test xs) (filter test xs)) ≡ cond two (f x ∷ filter other (map f xs)) (filter other (map f xs))
  by_test true true same rest = ap (λ ys. f x ∷ ys) rest
  by_test true false same rest = absurd (false≢true same)
  by_test false true same rest = absurd (false≢true (sym same))
  by_test false false same rest = rest
