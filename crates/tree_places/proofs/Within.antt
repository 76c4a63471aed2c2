-- Lists that stand within others, in their order.
use Rattle.std.proofs.Common.{◌≡◌, ◌⊎◌, Bool, true, false, cond, List, [], ◌∷◌, ◌++◌, map, refl, sym, ap, ◌∙◌, subst, inl, inr, arith, zero, suc}
use Rattle.std.specs.Prelude.{AllPairs}
use Rattle.std.specs.List.{flat_map, filter, All, AllByRecursion as Each}
use Rattle.std.proofs.lemmas.List.Kept.{AllPairs-cons}

-- all of a list stand in another, in their order
abbrev pub Within : {X : Type 0} → List X → List X → Type 0
Within [] ys = Unit {0}
Within (x ∷ xs) [] = ⊥
Within (x ∷ xs) (y ∷ ys) = ((x ≡ y) × Within xs ys) ⊎ Within (x ∷ xs) ys

pub within_more : {X : Type 0} (y : X) (xs ys : List X) → Within xs ys → Within xs (y ∷ ys)
within_more y [] ys h = tt
within_more y (x ∷ xs) ys h = inr h

pub within_both : {X : Type 0} (x : X) (xs ys : List X) → Within xs ys → Within (x ∷ xs) (x ∷ ys)
within_both x xs ys h = inl (refl, h)

pub within_self : {X : Type 0} (xs : List X) → Within xs xs
within_self [] = tt
within_self (x ∷ xs) = inl (refl, within_self xs)

pub within_behind : {X : Type 0} (front xs ys : List X) → Within xs ys → Within xs (front ++ ys)
within_behind [] xs ys h = h
within_behind (y ∷ front) xs ys h = within_more y xs (front ++ ys) (within_behind front xs ys h)

pub within_append : {X : Type 0} (xs ys us vs : List X) → Within xs ys → Within us vs → Within (xs ++ us) (ys ++ vs)
within_append [] ys us vs h k = within_behind ys us vs k
within_append (a ∷ xs) [] us vs h k = absurd h
within_append (a ∷ xs) (b ∷ ys) us vs (inl h) k = inl (h.0, within_append xs ys us vs h.1 k)
within_append (a ∷ xs) (b ∷ ys) us vs (inr h) k = inr (within_append (a ∷ xs) ys us vs h k)

pub within_front : {X : Type 0} (xs ys zs : List X) → Within xs ys → Within xs (ys ++ zs)
within_front [] ys zs h = tt
within_front (x ∷ xs) [] zs h = absurd h
within_front (x ∷ xs) (y ∷ ys) zs (inl h) = inl (h.0, within_front xs ys zs h.1)
within_front (x ∷ xs) (y ∷ ys) zs (inr h) = inr (within_front (x ∷ xs) ys zs h)

pub within_through : {X : Type 0} (xs ys zs : List X) → Within xs ys → Within ys zs → Within xs zs
within_through [] ys zs h k = tt
within_through (a ∷ xs) [] zs h k = absurd h
within_through (a ∷ xs) (b ∷ ys) [] h k = absurd k
within_through (a ∷ xs) (b ∷ ys) (c ∷ zs) (inl h) (inl k) = inl (h.0 ∙ k.0, within_through xs ys zs h.1 k.1)
within_through (a ∷ xs) (b ∷ ys) (c ∷ zs) (inr h) (inl k) = inr (within_through (a ∷ xs) ys zs h k.1)
within_through (a ∷ xs) (b ∷ ys) (c ∷ zs) h (inr k) = inr (within_through (a ∷ xs) (b ∷ ys) zs h k)

pub within_map : {X Y : Type 0} (f : X → Y) (xs ys : List X) → Within xs ys → Within (map f xs) (map f ys)
within_map f [] ys h = tt
within_map f (x ∷ xs) [] h = absurd h
within_map f (x ∷ xs) (y ∷ ys) (inl h) = inl (ap f h.0, within_map f xs ys h.1)
within_map f (x ∷ xs) (y ∷ ys) (inr h) = inr (within_map f (x ∷ xs) ys h)

pub within_filter : {X : Type 0} (test : X → Bool) (xs : List X) → Within (filter test xs) xs
within_filter test [] = tt
within_filter test (x ∷ xs) = by_test (test x) (within_filter test xs) where
  by_test : (b : Bool) → Within (filter test xs) xs → Within (cond b (x ∷ filter test xs) (filter test xs)) (x ∷ xs)
  by_test true h = inl (refl, h)
  by_test false h = within_more x (filter test xs) xs h

pub within_is : {X : Type 0} (xs ys zs : List X) → xs ≡ ys → Within ys zs → Within xs zs
within_is {X} xs ys zs e h = subst (λ (some : List X). Within some zs) (sym e) h

pub within_all : {X : Type 0} (xs ys zs : List X) → Within xs ys → ys ≡ zs → Within xs zs
within_all {X} xs ys zs h e = subst (λ (some : List X). Within xs some) e h

-- what one list of each thing stands in, another of each does
pub within_each : {X Y : Type 0} (f g : X → List Y) (xs : List X) → Each (λ x. Within (f x) (g x)) xs → Within (flat_map f xs) (flat_map g xs)
within_each f g [] h = tt
within_each f g (x ∷ xs) h = within_append (f x) (g x) (flat_map f xs) (flat_map g xs) h.0 (within_each f g xs h.1)

-- what holds of each pair
abbrev pub Pairs : {X : Type 0} → (X → X → Type 0) → List X → Type 0
Pairs R [] = Unit {0}
Pairs R (x ∷ xs) = Each (R x) xs × Pairs R xs

each_of : {X : Type 0} (P : X → Type 0) (xs : List X) → All P xs → Each P xs
each_of P [] h = tt
each_of P (x ∷ xs) h = (h zero x (omega arith), each_of P xs (λ i d l. h (suc i) d (omega (arith, l))))

all_of : {X : Type 0} (P : X → Type 0) (xs : List X) → Each P xs → All P xs
all_of P [] h i d l = absurd (omega (arith, l))
all_of P (x ∷ xs) h zero d l = h.0
all_of P (x ∷ xs) h (suc i) d l = all_of P xs h.1 i d (omega (arith, l))

pub pairs_of : {X : Type 0} (R : X → X → Type 0) (xs : List X) → AllPairs R xs → Pairs R xs
pairs_of R [] h = tt
pairs_of R (x ∷ xs) h =
    (each_of (R x) xs (λ i d l. h zero (suc i) d (omega arith) (omega (arith, l))), pairs_of R xs (λ i j d lt l. h (suc i) (suc j) d (omega (arith, lt)) (omega (arith, l))))

pub all_pairs : {X : Type 0} (R : X → X → Type 0) (xs : List X) → Pairs R xs → AllPairs R xs
all_pairs R [] h = λ i j d lt l. absurd (omega (arith, l))
all_pairs R (x ∷ xs) h = AllPairs-cons R x xs (all_of (R x) xs h.0) (all_pairs R xs h.1)

pub each_within : {X : Type 0} (P : X → Type 0) (xs ys : List X) → Within xs ys → Each P ys → Each P xs
each_within P [] ys w h = tt
each_within P (x ∷ xs) [] w h = absurd w
each_within P (x ∷ xs) (y ∷ ys) (inl w) h = (subst P (sym w.0) h.0, each_within P xs ys w.1 h.1)
each_within P (x ∷ xs) (y ∷ ys) (inr w) h = each_within P (x ∷ xs) ys w h.1

pub pairs_within : {X : Type 0} (R : X → X → Type 0) (xs ys : List X) → Within xs ys → Pairs R ys → Pairs R xs
pairs_within R [] ys w h = tt
pairs_within R (x ∷ xs) [] w h = absurd w
pairs_within R (x ∷ xs) (y ∷ ys) (inl w) h = (subst (λ z. Each (R z) xs) (sym w.0) (each_within (R y) xs ys w.1 h.0), pairs_within R xs ys w.1 h.1)
pairs_within R (x ∷ xs) (y ∷ ys) (inr w) h = pairs_within R (x ∷ xs) ys w h.1

-- a weaker relation
pub each_weaker : {X : Type 0} (P Q : X → Type 0) → ((x : X) → P x → Q x) → (xs : List X) → Each P xs → Each Q xs
each_weaker P Q so [] h = tt
each_weaker P Q so (x ∷ xs) h = (so x h.0, each_weaker P Q so xs h.1)

pub pairs_weaker : {X : Type 0} (R S : X → X → Type 0) → ((x y : X) → R x y → S x y) → (xs : List X) → Pairs R xs → Pairs S xs
pairs_weaker R S so [] h = tt
pairs_weaker R S so (x ∷ xs) h = (each_weaker (R x) (S x) (so x) xs h.0, pairs_weaker R S so xs h.1)

-- one more behind all
pub each_push : {X : Type 0} (P : X → Type 0) (xs : List X) (y : X) → Each P xs → P y → Each P (xs ++ y ∷ [])
each_push P [] y h k = (k, tt)
each_push P (x ∷ xs) y h k = (h.0, each_push P xs y h.1 k)

pub pairs_push : {X : Type 0} (R : X → X → Type 0) (xs : List X) (y : X) → Pairs R xs → Each (λ x. R x y) xs → Pairs R (xs ++ y ∷ [])
pairs_push R [] y h k = (tt, tt)
pairs_push R (x ∷ xs) y h k = (each_push (R x) xs y h.0 k.0, pairs_push R xs y h.1 k.1)
