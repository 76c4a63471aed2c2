-- Lists cut at the first element that passes a test.
use Rattle.std.proofs.Common.{◌≡◌, ℕ, ◌+◌, zero, suc, subst, Bool, true, false, not, cond, ◌||◌, List, [], ◌∷◌, ◌++◌, drop, refl, ap, sym, ◌∙◌, arith}
use Rattle.std.proofs.lemmas.Bool.{false≢true}
use Rattle.std.proofs.lemmas.List.{take-append-drop}
use Rattle.std.specs.List.{flat_map, list_any, position_or_len, before_first, AllByRecursion as Each}
use Rattle.edit_rules.specs.Places.{from_first}

-- by cases on a test
pub by_test : {P : Type 0} (test : Bool) → (test ≡ true → P) → (test ≡ false → P) → P
by_test true is_so other = is_so refl
by_test false is_so other = other refl

pub or_nothing : (test : Bool) → (test || false) ≡ test
or_nothing true = refl
or_nothing false = refl

-- the first element that passes, and those behind it
pub record First {X : Type 0} (test : X → Bool) (xs : List X) : Type 0 where
  pub x : X
  pub more : List X
  pub passes : test x ≡ true
  pub from : from_first test xs ≡ x ∷ more

one_more : {X : Type 0} (n : ℕ) (x : X) (xs : List X) → drop (1 + n) (x ∷ xs) ≡ drop n xs
one_more n x xs = let next : 1 + n ≡ suc n = omega arith in ap (λ (m : ℕ). drop m (x ∷ xs)) next

from_here : {X : Type 0} (test : X → Bool) (x : X) (xs : List X) → test x ≡ true → from_first test (x ∷ xs) ≡ x ∷ xs
from_here test x xs e = ap (λ (b : Bool). drop (cond (not b) (1 + position_or_len test xs) 0) (x ∷ xs)) e

from_there : {X : Type 0} (test : X → Bool) (x : X) (xs : List X) → test x ≡ false → from_first test (x ∷ xs) ≡ from_first test xs
from_there test x xs e = ap (λ (b : Bool). drop (cond (not b) (1 + position_or_len test xs) 0) (x ∷ xs)) e ∙ one_more (position_or_len test xs) x xs

pub first_found : {X : Type 0} (test : X → Bool) (xs : List X) → list_any test xs ≡ true → First test xs
first_found test [] e = absurd (false≢true e)
first_found test (x ∷ xs) e =
    by_test (test x)
    (λ is_so. record { x = x; more = xs; passes = is_so; from = from_here test x xs is_so })
    (λ other.
    let later : First test xs = first_found test xs (ap (λ (b : Bool). b || list_any test xs) (sym other) ∙ e) in
    record { x = later.x; more = later.more; passes = later.passes; from = from_there test x xs other ∙ later.from })

pub cut_at_first : {X : Type 0} (test : X → Bool) (xs : List X) → before_first test xs ++ from_first test xs ≡ xs
cut_at_first test xs = take-append-drop (position_or_len test xs) xs

-- what holds of each element
pub each_both : {X : Type 0} (P : X → Type 0) (xs ys : List X) → Each P (xs ++ ys) → Each P xs × Each P ys
each_both P [] ys each = (tt, each)
each_both P (x ∷ xs) ys each = let rest = each_both P xs ys each.1 in ((each.0, rest.0), rest.1)

pub each_part : {X Y : Type 0} (P : Y → Type 0) (f : X → List Y) (xs : List X) → Each P (flat_map f xs) → Each (λ x. Each P (f x)) xs
each_part P f [] each = tt
each_part P f (x ∷ xs) each = let both = each_both P (f x) (flat_map f xs) each in (both.0, each_part P f xs both.1)

each_drop : {X : Type 0} (P : X → Type 0) (n : ℕ) (xs : List X) → Each P xs → Each P (drop n xs)
each_drop P zero xs each = each
each_drop P (suc n) [] each = tt
each_drop P (suc n) (x ∷ xs) each = each_drop P n xs each.1

pub each_first : {X : Type 0} (P : X → Type 0) (test : X → Bool) (xs : List X) (first : First test xs) → Each P xs → P first.x
each_first P test xs first each = (subst (λ ys. Each P ys) first.from (each_drop P (position_or_len test xs) xs each)).0
