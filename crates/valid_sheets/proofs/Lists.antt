-- What holds of each of some things, of one of them, and of each two of them.
use Rattle.std.proofs.Common.{◌≡◌, ℕ, ◌<◌, ◌⊎◌, inl, inr, suc, zero, not, Bool, true, false, cond, List, [], ◌∷◌, ◌++◌, map, filter, find, length, refl, sym, subst, arith, slice_index_or, Some, option_to_list}
use Rattle.std.specs.List.{flat_map, Any, AllByRecursion as Each}
use Rattle.load_model.specs.Left.{firsts}
use Rattle.tree_places.proofs.Within.{Pairs, pairs_within, within_filter}

pub each_append : {X : Type 0} (P : X → Type 0) (xs ys : List X) → Each P xs → Each P ys → Each P (xs ++ ys)
each_append P [] ys one other = other
each_append P (x ∷ xs) ys one other = (one.0, each_append P xs ys one.1 other)

pub each_flat : {X Y : Type 0} (P : Y → Type 0) (f : X → List Y) (xs : List X) → Each (λ x. Each P (f x)) xs → Each P (flat_map f xs)
each_flat P f [] each = tt
each_flat P f (x ∷ xs) each = each_append P (f x) (flat_map f xs) each.0 (each_flat P f xs each.1)

pub each_map : {X Y : Type 0} (P : Y → Type 0) (f : X → Y) (xs : List X) → Each (λ x. P (f x)) xs → Each P (map f xs)
each_map P f [] each = tt
each_map P f (x ∷ xs) each = (each.0, each_map P f xs each.1)

-- of each something more holds
pub each_so : {X : Type 0} (P Q : X → Type 0) → ((x : X) → P x → Q x) → (xs : List X) → Each P xs → Each Q xs
each_so P Q so [] each = tt
each_so P Q so (x ∷ xs) each = (so x each.0, each_so P Q so xs each.1)

pub each_all : {X : Type 0} (P : X → Type 0) → ((x : X) → P x) → (xs : List X) → Each P xs
each_all P all [] = tt
each_all P all (x ∷ xs) = (all x, each_all P all xs)

pub each_with : {X : Type 0} (P Q R : X → Type 0) → ((x : X) → P x → Q x → R x) → (xs : List X) → Each P xs → Each Q xs → Each R xs
each_with P Q R so [] ps qs = tt
each_with P Q R so (x ∷ xs) ps qs = (so x ps.0 qs.0, each_with P Q R so xs ps.1 qs.1)

-- each that is filtered passes the test
pub each_passes : {X : Type 0} (test : X → Bool) (xs : List X) → Each (λ x. test x ≡ true) (filter test xs)
each_passes test [] = tt
each_passes test (x ∷ xs) = by_test (test x) refl (each_passes test xs) where
  by_test : (b : Bool) → test x ≡ b → Each (λ y. test y ≡ true) (filter test xs) → Each (λ y. test y ≡ true) (cond b (x ∷ filter test xs) (filter test xs))
  by_test true is rest = (is, rest)
  by_test false is rest = rest

-- what holds of each holds of those that are filtered, of the first ones, and of the one that is found
pub each_filter : {X : Type 0} (P : X → Type 0) (test : X → Bool) (xs : List X) → Each P xs → Each P (filter test xs)
each_filter P test [] each = tt
each_filter P test (x ∷ xs) each = by_test (test x) (each_filter P test xs each.1) where
  by_test : (b : Bool) → Each P (filter test xs) → Each P (cond b (x ∷ filter test xs) (filter test xs))
  by_test true rest = (each.0, rest)
  by_test false rest = rest

pub each_firsts : {X : Type 0} (P : X → Type 0) (same : X → X → Bool) (xs : List X) → Each P xs → Each P (firsts same xs)
each_firsts P same [] each = tt
each_firsts P same (x ∷ xs) each = (each.0, each_filter P (λ other. not (same x other)) (firsts same xs) (each_firsts P same xs each.1))

pub each_found : {X : Type 0} (P : X → Type 0) (test : X → Bool) (xs : List X) → Each P xs → Each P (option_to_list (find test xs))
each_found P test [] each = tt
each_found P test (x ∷ xs) each = by_test (test x) (each_found P test xs each.1) where
  by_test : (b : Bool) → Each P (option_to_list (find test xs)) → Each P (option_to_list (cond b (Some x) (find test xs)))
  by_test true rest = (each.0, tt)
  by_test false rest = rest

-- something holds of one of some things
abbrev pub Has : {X : Type 0} → (X → Type 0) → List X → Type 0
Has P [] = ⊥
Has P (x ∷ xs) = P x ⊎ Has P xs

pub any_has : {X : Type 0} (P : X → Type 0) (xs : List X) → Has P xs → Any P xs
any_has P [] has = absurd has
any_has P (x ∷ xs) (inl here) = (0, x, omega arith, refl, here)
any_has P (x ∷ xs) (inr more) = let there = any_has P xs more in (suc there.0, there.1, omega (arith, there.2), there.3, there.4)

pub has_any : {X : Type 0} (P : X → Type 0) (xs : List X) → Any P xs → Has P xs
has_any {X} P xs any = at_place xs any.0 any.1 any.2 any.3 any.4 where
  at_place : (xs : List X) (at : ℕ) (d : X) → at < length xs → slice_index_or xs at d ≡ d → P d → Has P xs
  at_place [] at d l is holds = absurd (omega (arith, l))
  at_place (y ∷ ys) zero d l is holds = inl (subst P (sym is) holds)
  at_place (y ∷ ys) (suc at) d l is holds = inr (at_place ys at d (omega (arith, l)) is holds)

pub has_so : {X : Type 0} (P Q : X → Type 0) → ((x : X) → P x → Q x) → (xs : List X) → Has P xs → Has Q xs
has_so P Q so [] has = absurd has
has_so P Q so (x ∷ xs) (inl here) = inl (so x here)
has_so P Q so (x ∷ xs) (inr more) = inr (has_so P Q so xs more)

-- one of some things of each of which something holds
pub has_each : {X : Type 0} (P Q : X → Type 0) (C : Type 0) → ((x : X) → P x → Q x → C) → (xs : List X) → Has P xs → Each Q xs → C
has_each P Q C so [] has each = absurd has
has_each P Q C so (x ∷ xs) (inl here) each = so x here each.0
has_each P Q C so (x ∷ xs) (inr more) each = has_each P Q C so xs more each.1

pub has_front : {X : Type 0} (P : X → Type 0) (xs ys : List X) → Has P xs → Has P (xs ++ ys)
has_front P [] ys has = absurd has
has_front P (x ∷ xs) ys (inl here) = inl here
has_front P (x ∷ xs) ys (inr more) = inr (has_front P xs ys more)

pub has_behind : {X : Type 0} (P : X → Type 0) (xs ys : List X) → Has P ys → Has P (xs ++ ys)
has_behind P [] ys has = has
has_behind P (x ∷ xs) ys has = inr (has_behind P xs ys has)

pub has_parts : {X : Type 0} (P : X → Type 0) (xs ys : List X) → Has P (xs ++ ys) → Has P xs ⊎ Has P ys
has_parts P [] ys has = inr has
has_parts P (x ∷ xs) ys (inl here) = inl (inl here)
has_parts P (x ∷ xs) ys (inr more) = elim (has_parts P xs ys more) [ inl front ↦ inl (inr front) | inr behind ↦ inr behind ]

pub has_flat : {X Y : Type 0} (P : Y → Type 0) (f : X → List Y) (xs : List X) → Has (λ x. Has P (f x)) xs → Has P (flat_map f xs)
has_flat P f [] has = absurd has
has_flat P f (x ∷ xs) (inl here) = has_front P (f x) (flat_map f xs) here
has_flat P f (x ∷ xs) (inr more) = has_behind P (f x) (flat_map f xs) (has_flat P f xs more)

pub flat_has : {X Y : Type 0} (P : Y → Type 0) (f : X → List Y) (xs : List X) → Has P (flat_map f xs) → Has (λ x. Has P (f x)) xs
flat_has P f [] has = absurd has
flat_has P f (x ∷ xs) has = elim (has_parts P (f x) (flat_map f xs) has) [ inl front ↦ inl front | inr behind ↦ inr (flat_has P f xs behind) ]

pub has_map : {X Y : Type 0} (P : Y → Type 0) (f : X → Y) (xs : List X) → Has (λ x. P (f x)) xs → Has P (map f xs)
has_map P f [] has = absurd has
has_map P f (x ∷ xs) (inl here) = inl here
has_map P f (x ∷ xs) (inr more) = inr (has_map P f xs more)

pub map_has : {X Y : Type 0} (P : Y → Type 0) (f : X → Y) (xs : List X) → Has P (map f xs) → Has (λ x. P (f x)) xs
map_has P f [] has = absurd has
map_has P f (x ∷ xs) (inl here) = inl here
map_has P f (x ∷ xs) (inr more) = inr (map_has P f xs more)

-- one that passes is filtered, and one that is filtered passes
pub has_filter : {X : Type 0} (P : X → Type 0) (test : X → Bool) (xs : List X) → Has (λ x. P x × (test x ≡ true)) xs → Has P (filter test xs)
has_filter P test [] has = absurd has
has_filter P test (x ∷ xs) (inl here) = subst (λ b. Has P (cond b (x ∷ filter test xs) (filter test xs))) (sym here.1) (inl here.0)
has_filter P test (x ∷ xs) (inr more) = by_test (test x) (has_filter P test xs more) where
  by_test : (b : Bool) → Has P (filter test xs) → Has P (cond b (x ∷ filter test xs) (filter test xs))
  by_test true rest = inr rest
  by_test false rest = rest

pub filter_has : {X : Type 0} (P : X → Type 0) (test : X → Bool) (xs : List X) → Has P (filter test xs) → Has (λ x. P x × (test x ≡ true)) xs
filter_has P test [] has = absurd has
filter_has {X} P test (x ∷ xs) has = by_test (test x) refl has (filter_has P test xs) where
  by_test : (b : Bool) → test x ≡ b → Has P (cond b (x ∷ filter test xs) (filter test xs)) → (Has P (filter test xs) → Has (λ x. P x × (test x ≡ true)) xs) → Has (λ x. P x × (test x ≡ true)) (x ∷ xs)
  by_test true is (inl here) rest = inl (here, is)
  by_test true is (inr more) rest = inr (rest more)
  by_test false is has rest = inr (rest has)

-- one that passes a test or doesn't is among those that don't or those that do
pub has_halves : {X : Type 0} (P : X → Type 0) (test : X → Bool) (xs : List X) → Has P xs → Has P (filter (λ x. not (test x)) xs) ⊎ Has P (filter test xs)
has_halves P test [] has = absurd has
has_halves {X} P test (x ∷ xs) has = by_test (test x) has (has_halves P test xs) where
  plain : List X
  plain = filter (λ x. not (test x)) xs

  by_test : (b : Bool) → Has P (x ∷ xs) → (Has P xs → Has P plain ⊎ Has P (filter test xs)) → Has P (cond (not b) (x ∷ plain) plain) ⊎ Has P (cond b (x ∷ filter test xs) (filter test xs))
  by_test true (inl here) rest = inr (inl here)
  by_test true (inr more) rest = elim (rest more) [ inl front ↦ inl front | inr behind ↦ inr (inr behind) ]
  by_test false (inl here) rest = inl (inl here)
  by_test false (inr more) rest = elim (rest more) [ inl front ↦ inl (inr front) | inr behind ↦ inr behind ]

-- each two of two lists one behind the other
pub pairs_append : {X : Type 0} (R : X → X → Type 0) (xs ys : List X) → Pairs R xs → Pairs R ys → Each (λ x. Each (R x) ys) xs → Pairs R (xs ++ ys)
pairs_append R [] ys one other across = other
pairs_append R (x ∷ xs) ys one other across = (each_append (R x) xs ys one.0 across.0, pairs_append R xs ys one.1 other across.1)

pub pairs_flat : {X Y : Type 0} (R : Y → Y → Type 0) (f : X → List Y) (xs : List X) → Each (λ x. Pairs R (f x)) xs → Pairs (λ a b. Each (λ y. Each (R y) (f b)) (f a)) xs → Pairs R (flat_map f xs)
pairs_flat R f [] own across = tt
pairs_flat {X} {Y} R f (x ∷ xs) own across = pairs_append R (f x) (flat_map f xs) own.0 (pairs_flat R f xs own.1 across.1) (turned xs across.0) where
  add : (ys : List Y) (zs more : List Y) → Each (λ y. Each (R y) zs) ys → Each (λ y. Each (R y) more) ys → Each (λ y. Each (R y) (zs ++ more)) ys
  add [] zs more one other = tt
  add (y ∷ ys) zs more one other = (each_append (R y) zs more one.0 other.0, add ys zs more one.1 other.1)

  turned : (others : List X) → Each (λ b. Each (λ y. Each (R y) (f b)) (f x)) others → Each (λ y. Each (R y) (flat_map f others)) (f x)
  turned [] each = each_all (λ y. Unit {0}) (λ y. tt) (f x)
  turned (b ∷ others) each = add (f x) (f b) (flat_map f others) each.0 (turned others each.1)

-- of each two something more holds
pub pairs_so : {X : Type 0} (R S : X → X → Type 0) → ((x y : X) → R x y → S x y) → (xs : List X) → Pairs R xs → Pairs S xs
pairs_so R S so [] pairs = tt
pairs_so R S so (x ∷ xs) pairs = (each_so (R x) (S x) (so x) xs pairs.0, pairs_so R S so xs pairs.1)

pub pairs_each : {X : Type 0} (P : X → Type 0) (R S : X → X → Type 0) → ((x y : X) → P x → P y → R x y → S x y) → (xs : List X) → Each P xs → Pairs R xs → Pairs S xs
pairs_each P R S so [] each pairs = tt
pairs_each P R S so (x ∷ xs) each pairs = (each_with P (R x) (S x) (λ y p r. so x y each.0 p r) xs each.1 pairs.0, pairs_each P R S so xs each.1 pairs.1)

pub pairs_all : {X : Type 0} (P : X → Type 0) (R : X → X → Type 0) → ((x y : X) → P x → P y → R x y) → (xs : List X) → Each P xs → Pairs R xs
pairs_all P R so [] each = tt
pairs_all P R so (x ∷ xs) each = (each_so P (R x) (λ y p. so x y each.0 p) xs each.1, pairs_all P R so xs each.1)

-- what holds of each two either way round holds of those that don't pass a test and behind them those that do
pub pairs_across : {X : Type 0} (R : X → X → Type 0) (test other : X → Bool) → ((x y : X) → R x y → R y x) → (xs : List X) → ((x : X) → test x ≡ true → other x ≡ true → ⊥) → Pairs R xs → Each (λ x. Each (R x) (filter test xs)) (filter other xs)
pairs_across R test other turn [] apart pairs = tt
pairs_across {X} R test other turn (x ∷ xs) apart pairs = by_test (test x) (other x) refl refl (pairs_across R test other turn xs apart pairs.1) where
  some : List X
  some = filter test xs

  more : List X
  more = filter other xs

  front : (ys : List X) → Each (R x) ys → Each (λ y. Each (R y) some) ys → Each (λ y. Each (R y) (x ∷ some)) ys
  front [] each rest = tt
  front (y ∷ ys) each rest = ((turn x y each.0, rest.0), front ys each.1 rest.1)

  by_test : (a b : Bool) → test x ≡ a → other x ≡ b → Each (λ y. Each (R y) some) more → Each (λ y. Each (R y) (cond a (x ∷ some) some)) (cond b (x ∷ more) more)
  by_test true true e f rest = absurd (apart x e f)
  by_test true false e f rest = front more (each_filter (R x) other xs pairs.0) rest
  by_test false true e f rest = (each_filter (R x) test xs pairs.0, rest)
  by_test false false e f rest = rest

-- the first ones are apart
not_true : (b : Bool) → not b ≡ true → b ≡ false
not_true true e = absurd cc
not_true false e = refl

pub firsts_apart : {X : Type 0} (same : X → X → Bool) (xs : List X) → Pairs (λ x y. same x y ≡ false) (firsts same xs)
firsts_apart same [] = tt
firsts_apart {X} same (x ∷ xs) = (
  each_so (λ y. not (same x y) ≡ true) (λ y. same x y ≡ false) (λ y is. not_true (same x y) is) (filter others (firsts same xs)) (each_passes others (firsts same xs)),
  pairs_within (λ x y. same x y ≡ false) (filter others (firsts same xs)) (firsts same xs) (within_filter others (firsts same xs)) (firsts_apart same xs),
) where
  others : X → Bool
  others other = not (same x other)
