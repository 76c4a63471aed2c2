-- What holds of each in a list.
use Rattle.std.proofs.Common.{◌≡◌, ◌≢◌, ℕ, ◌≤◌, ◌<◌, zero, suc, List, [], ◌∷◌, map, max, fold, length, slice_index_or, ◌∙◌, arith}
use Rattle.std.specs.List.{flat_map, Any, AllByRecursion as Each}
use Rattle.back_spans.proofs.Runs.{each_both}

pub each_part : {X Y : Type 0} (P : Y → Type 0) (f : X → List Y) (xs : List X) → Each P (flat_map f xs) → Each (λ x. Each P (f x)) xs
each_part P f [] each = tt
each_part P f (x ∷ xs) each = let both = each_both P (f x) (flat_map f xs) each in (both.0, each_part P f xs both.1)

pub each_mapped : {X Y : Type 0} (P : Y → Type 0) (f : X → Y) (xs : List X) → Each P (map f xs) → Each (λ x. P (f x)) xs
each_mapped P f [] each = tt
each_mapped P f (x ∷ xs) each = (each.0, each_mapped P f xs each.1)

pub each_map : {X Y : Type 0} (P : Y → Type 0) (f : X → Y) (xs : List X) → Each (λ x. P (f x)) xs → Each P (map f xs)
each_map P f [] each = tt
each_map P f (x ∷ xs) each = (each.0, each_map P f xs each.1)

pub each_also : {X : Type 0} (P Q : X → Type 0) → ((x : X) → P x → Q x) → (xs : List X) → Each P xs → Each Q xs
each_also P Q also [] each = tt
each_also P Q also (x ∷ xs) each = (also x each.0, each_also P Q also xs each.1)

-- of two facts of each, a third
pub each_joined : {X : Type 0} (P Q R : X → Type 0) → ((x : X) → P x → Q x → R x) → (xs : List X) → Each P xs → Each Q xs → Each R xs
each_joined P Q R join [] one other = tt
each_joined P Q R join (x ∷ xs) one other = (join x one.0 other.0, each_joined P Q R join xs one.1 other.1)

-- what is the same as one of these isn't empty
at_place : (names : List (List ℕ)) (at : ℕ) (name : List ℕ) → at < length names → slice_index_or names at name ≡ name → Each (λ one. one ≢ []) names → name ≢ []
at_place [] at name h is each e = absurd (omega arith)
at_place (one ∷ names) zero name h is each e = each.0 (is ∙ e)
at_place (one ∷ names) (suc at) name h is each e = at_place names at name (omega arith) is each.1 e

pub among : (names : List (List ℕ)) (name : List ℕ) → Each (λ one. one ≢ []) names → Any (λ other. other ≡ name) names → name ≢ []
among names name each any e = at_place names any.0 any.1 any.2 any.3 each (any.4 ∙ e)

-- none is greater than the greatest
pub each_at_most : (most a : ℕ) (numbers : List ℕ) → fold max a numbers ≤ most → (a ≤ most) × Each (λ n. n ≤ most) numbers
each_at_most most a [] h = (h, tt)
each_at_most most a (n ∷ numbers) h = let rest = each_at_most most (max a n) numbers h in (omega (arith, rest.0), (omega (arith, rest.0), rest.1))
