-- Names that are no longer than names may be, and greatest counts.
use Rattle.std.proofs.Common.{◌≡◌, ℕ, ◌≤◌, ◌<◌, List, [], ◌∷◌, ◌++◌, length, map, max, sym, subst, ◌∙◌, arith, inl, inr}
use Rattle.std.specs.Prelude.{◌⊎◌, fold, nat_lt}
use Rattle.std.specs.List.{AllByRecursion as Each}
use Rattle.std.proofs.lemmas.Bool.{le-ltb, lt-ltb, cases_lt}
use Rattle.std.proofs.lemmas.List.Sums.{fold-append}
use Rattle.doc_model.specs.Limits.{greatest}
use Rattle.row_measures.specs.RowNames.{longest}

-- a name that is no longer than names may be
abbrev pub Fits : List ℕ → Type 0
Fits name = length name ≤ 1024

greatest_within : (from most : ℕ) (ns : List ℕ) → fold max from ns ≤ most → (from ≤ most) × Each (λ n. n ≤ most) ns
greatest_within from most [] below = (below, tt)
greatest_within from most (n ∷ ns) below = let rest = greatest_within (max from n) most ns below in (omega (arith, rest.0), (omega (arith, rest.0), rest.1))

within_greatest : (from most : ℕ) (ns : List ℕ) → from ≤ most → Each (λ n. n ≤ most) ns → fold max from ns ≤ most
within_greatest from most [] below each = below
within_greatest from most (n ∷ ns) below each = within_greatest (max from n) most ns (omega (arith, below, each.0)) each.1

each_length : (names : List (List ℕ)) → Each (λ n. n ≤ 1024) (map length names) → Each Fits names
each_length [] each = tt
each_length (name ∷ names) each = (each.0, each_length names each.1)

length_each : (names : List (List ℕ)) → Each Fits names → Each (λ n. n ≤ 1024) (map length names)
length_each [] each = tt
length_each (name ∷ names) each = (each.0, length_each names each.1)

pub each_fits : (names : List (List ℕ)) → longest names ≤ 1024 → Each Fits names
each_fits names below = each_length names (greatest_within 0 1024 (map length names) below).1

pub longest_fits : (names : List (List ℕ)) → Each Fits names → longest names ≤ 1024
longest_fits names each = within_greatest 0 1024 (map length names) (omega arith) (length_each names each)

-- parts of lists
pub each_front : {X : Type 0} (P : X → Type 0) (xs ys : List X) → Each P (xs ++ ys) → Each P xs
each_front P [] ys each = tt
each_front P (x ∷ xs) ys each = (each.0, each_front P xs ys each.1)

pub each_rest : {X : Type 0} (P : X → Type 0) (xs ys : List X) → Each P (xs ++ ys) → Each P ys
each_rest P [] ys each = each
each_rest P (x ∷ xs) ys each = each_rest P xs ys each.1

pub each_both : {X : Type 0} (P : X → Type 0) (xs ys : List X) → Each P xs → Each P ys → Each P (xs ++ ys)
each_both P [] ys front rest = rest
each_both P (x ∷ xs) ys front rest = (front.0, each_both P xs ys front.1 rest)

-- one count in the place of another among those that are within a limit
pub one_out : (most : ℕ) (xs ys : List ℕ) (was is : ℕ) → greatest (xs ++ was ∷ ys) ≤ most → nat_lt most (greatest (xs ++ is ∷ ys)) ≡ nat_lt most is
one_out most xs ys was is below = by_case (cases_lt most is) where
  known : Each (λ n. n ≤ most) (xs ++ was ∷ ys)
  known = (greatest_within 0 most (xs ++ was ∷ ys) below).1

  front : Each (λ n. n ≤ most) xs
  front = each_front (λ n. n ≤ most) xs (was ∷ ys) known

  rest : Each (λ n. n ≤ most) ys
  rest = (each_rest (λ n. n ≤ most) xs (was ∷ ys) known).1

  greater : (from : ℕ) (ns : List ℕ) → from ≤ fold max from ns
  greater from [] = omega arith
  greater from (n ∷ ns) = let more = greater (max from n) ns in omega (arith, more)

  by_case : (most < is) ⊎ (is ≤ most) → nat_lt most (greatest (xs ++ is ∷ ys)) ≡ nat_lt most is
  by_case (inl above) =
      let all : greatest (xs ++ is ∷ ys) ≡ fold max (fold max 0 xs) (is ∷ ys) = fold-append max 0 xs (is ∷ ys) in
      let more : max (fold max 0 xs) is ≤ fold max (max (fold max 0 xs) is) ys = greater (max (fold max 0 xs) is) ys in
      lt-ltb most (greatest (xs ++ is ∷ ys)) (subst (λ (n : ℕ). most < n) (sym all) (omega (arith, above, more))) ∙ sym (lt-ltb most is above)
  by_case (inr within) =
      le-ltb most (greatest (xs ++ is ∷ ys)) (within_greatest 0 most (xs ++ is ∷ ys) (omega arith) (each_both (λ n. n ≤ most) xs (is ∷ ys) front (within, rest))) ∙ sym (le-ltb most is within)
