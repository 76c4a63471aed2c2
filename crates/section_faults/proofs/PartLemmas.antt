-- Lists that are what is left of others when some of their items are taken out.
use Rattle.std.proofs.Common.{◌≡◌, ◌≢◌, ℕ, zero, suc, ◌||◌, not, ◌⊎◌, inl, inr, Bool, true, false, cond, List, [], ◌∷◌, ◌++◌, map, filter, AllPairs, refl, sym, ap, ap₂, ◌∙◌, subst, arith, eq-eqb, ne_eqb}
use Rattle.std.specs.List.{AllByRecursion as Each}
use Rattle.std.proofs.lemmas.List.Elements.{All-from_recursion, recursion_from_All}
use Rattle.std.proofs.lemmas.List.Kept.{AllPairs-cons}
use Rattle.load_model.specs.Met.{is_at}
use Rattle.load_model.specs.Left.{firsts}

-- what holds of each and each behind it, by recursion
abbrev pub Pairs : {X : Type 0} → (X → X → Type 0) → List X → Type 0
Pairs R [] = Unit {0}
Pairs R (x ∷ xs) = Each (R x) xs × Pairs R xs

pub pairs_of_all : {X : Type 0} (R : X → X → Type 0) (xs : List X) → AllPairs R xs → Pairs R xs
pairs_of_all R [] h = tt
pairs_of_all R (x ∷ xs) h = (
  recursion_from_All (R x) xs (λ k d l. h zero (suc k) d (omega arith) (omega (arith, l))),
  pairs_of_all R xs (λ i j d l m. h (suc i) (suc j) d (omega (arith, l)) (omega (arith, m))),
)

pub all_of_pairs : {X : Type 0} (R : X → X → Type 0) (xs : List X) → Pairs R xs → AllPairs R xs
all_of_pairs R [] h = λ i j d l m. absurd (omega (arith, l, m))
all_of_pairs R (x ∷ xs) h = AllPairs-cons R x xs (All-from_recursion (R x) xs h.0) (all_of_pairs R xs h.1)

last_of : {X : Type 0} (P : X → Type 0) (xs : List X) (y : X) → Each P (xs ++ y ∷ []) → P y
last_of P [] y h = h.0
last_of P (x ∷ xs) y h = last_of P xs y h.1

pub last_pair : {X : Type 0} (R : X → X → Type 0) (xs : List X) (y : X) → Pairs R (xs ++ y ∷ []) → Each (λ x. R x y) xs
last_pair R [] y h = tt
last_pair R (x ∷ xs) y h = (last_of (R x) xs y h.0, last_pair R xs y h.1)

-- the first list is left of the second
abbrev pub IsPart : {X : Type 0} → List X → List X → Type 0
IsPart [] xs = Unit {0}
IsPart (y ∷ ys) [] = ⊥
IsPart (y ∷ ys) (x ∷ xs) = ((y ≡ x) × IsPart ys xs) ⊎ IsPart (y ∷ ys) xs

pub part_skip : {X : Type 0} (x : X) (ys xs : List X) → IsPart ys xs → IsPart ys (x ∷ xs)
part_skip x [] xs h = tt
part_skip x (y ∷ ys) xs h = inr h

pub part_keep : {X : Type 0} (x : X) (ys xs : List X) → IsPart ys xs → IsPart (x ∷ ys) (x ∷ xs)
part_keep x ys xs h = inl (refl, h)

pub part_front : {X : Type 0} (xs ys : List X) → IsPart xs (xs ++ ys)
part_front [] ys = tt
part_front (x ∷ xs) ys = inl (refl, part_front xs ys)

pub part_append : {X : Type 0} (ys xs zs ws : List X) → IsPart ys xs → IsPart zs ws → IsPart (ys ++ zs) (xs ++ ws)
part_append [] [] zs ws h k = k
part_append (y ∷ ys) [] zs ws h k = absurd h
part_append [] (x ∷ xs) zs ws h k = part_skip x zs (xs ++ ws) (part_append [] xs zs ws tt k)
part_append (y ∷ ys) (x ∷ xs) zs ws h k = elim h [ inl e ↦ inl (e.0, part_append ys xs zs ws e.1 k) | inr r ↦ inr (part_append (y ∷ ys) xs zs ws r k) ]

pub part_map : {X Y : Type 0} (f : X → Y) (ys xs : List X) → IsPart ys xs → IsPart (map f ys) (map f xs)
part_map f [] xs h = tt
part_map f (y ∷ ys) [] h = absurd h
part_map f (y ∷ ys) (x ∷ xs) h = elim h [ inl e ↦ inl (ap f e.0, part_map f ys xs e.1) | inr r ↦ inr (part_map f (y ∷ ys) xs r) ]

pub part_filter : {X : Type 0} (p : X → Bool) (ys xs : List X) → IsPart ys xs → IsPart (filter p ys) xs
part_filter p [] xs h = tt
part_filter p (y ∷ ys) [] h = absurd h
part_filter {X} p (y ∷ ys) (x ∷ xs) h = elim h [ inl e ↦ by_test (p y) e.0 (part_filter p ys xs e.1) | inr r ↦ part_skip x (filter p (y ∷ ys)) xs (part_filter p (y ∷ ys) xs r) ] where
  by_test : (b : Bool) → y ≡ x → IsPart (filter p ys) xs → IsPart (cond b (y ∷ filter p ys) (filter p ys)) (x ∷ xs)
  by_test true e rest = inl (e, rest)
  by_test false e rest = part_skip x (filter p ys) xs rest

pub part_each : {X : Type 0} (P : X → Type 0) (ys xs : List X) → IsPart ys xs → Each P xs → Each P ys
part_each P [] xs h all = tt
part_each P (y ∷ ys) [] h all = absurd h
part_each P (y ∷ ys) (x ∷ xs) h all = elim h [ inl e ↦ (subst P (sym e.0) all.0, part_each P ys xs e.1 all.1) | inr r ↦ part_each P (y ∷ ys) xs r all.1 ]

pub part_pairs : {X : Type 0} (R : X → X → Type 0) (ys xs : List X) → IsPart ys xs → Pairs R xs → Pairs R ys
part_pairs R [] xs h all = tt
part_pairs R (y ∷ ys) [] h all = absurd h
part_pairs {X} R (y ∷ ys) (x ∷ xs) h all = elim h [
  | inl e ↦ (subst (λ (z : X). Each (R z) ys) (sym e.0) (part_each (R x) ys xs e.1 all.0), part_pairs R ys xs e.1 all.1)
  | inr r ↦ part_pairs R (y ∷ ys) xs r all.1
]

-- first ones are left of all
pub part_firsts : {X : Type 0} (same : X → X → Bool) (xs : List X) → IsPart (firsts same xs) xs
part_firsts same [] = tt
part_firsts same (x ∷ xs) = inl (refl, part_filter (λ other. not (same x other)) (firsts same xs) xs (part_firsts same xs))

-- where no two are at one place, those at the places of some are these
module _ {X : Type 0} (place : X → ℕ) where
  abbrev Differ : X → X → Type 0
  Differ x y = place x ≢ place y

  nowhere : (p : ℕ) (ys : List X) → Each (λ (y : X). p ≢ place y) ys → is_at (map place ys) p ≡ false
  nowhere p [] h = refl
  nowhere p (y ∷ ys) h = ap (λ b. b || is_at (map place ys) p) (ne_eqb (place y) p (λ e. h.0 (sym e))) ∙ nowhere p ys h.1

  elsewhere : (y : X) (ys xs : List X) → Each (Differ y) xs → filter (λ (x : X). is_at (place y ∷ map place ys) (place x)) xs ≡ filter (λ (x : X). is_at (map place ys) (place x)) xs
  elsewhere y ys [] h = refl
  elsewhere y ys (x ∷ xs) h =
      ap₂ (λ b (more : List X). cond (b || is_at (map place ys) (place x)) (x ∷ more) more) (ne_eqb (place y) (place x) h.0) (elsewhere y ys xs h.1)

  pub those_at : (ys xs : List X) → IsPart ys xs → Pairs Differ xs → filter (λ (x : X). is_at (map place ys) (place x)) xs ≡ ys
  those_at [] [] part apart = refl
  those_at (y ∷ ys) [] part apart = absurd part
  those_at [] (x ∷ xs) part apart = those_at [] xs tt apart.1
  those_at (y ∷ ys) (x ∷ xs) part apart = elim part [
    | inl e ↦
        let others : Each (Differ y) xs = subst (λ (z : X). Each (Differ z) xs) (sym e.0) apart.0 in
        ap₂ (λ b (more : List X). cond (b || is_at (map place ys) (place x)) (x ∷ more) more) (eq-eqb (place y) (place x) (ap place e.0)) (elsewhere y ys xs others ∙ those_at ys xs e.1 apart.1)
        ∙ ap (λ (z : X). z ∷ ys) (sym e.0)
    | inr r ↦
        let gone : is_at (map place (y ∷ ys)) (place x) ≡ false = nowhere (place x) (y ∷ ys) (part_each (Differ x) (y ∷ ys) xs r apart.0) in
        ap (λ b. cond b (x ∷ filter (λ (z : X). is_at (map place (y ∷ ys)) (place z)) xs) (filter (λ (z : X). is_at (map place (y ∷ ys)) (place z)) xs)) gone ∙ those_at (y ∷ ys) xs r apart.1
  ]
