-- What a search by halves finds in numbers that rise.
use Rattle.std.proofs.Common.{◌≡◌, ℕ, ◌+◌, ◌<◌, ◌≤◌, ◌⊎◌, List, length, get_or, inl, inr, subst, arith}
use Rattle.std.specs.List.Sorted.{IsNonDecreasing}
use Rattle.std.proofs.lemmas.Bool.{cases_lt}
use Rattle.tagged_list.specs.Keeps.{Rises}

pub below_middle : (xs : List ℕ) (m x : ℕ) → IsNonDecreasing xs → m < length xs → get_or xs m 0 < x → (k : ℕ) → k < m + 1 → get_or xs k 0 < x
below_middle xs m x sorted within lt k h = omega (arith, sorted k m 0 (omega arith) within)

pub above_middle : (xs : List ℕ) (m x : ℕ) → IsNonDecreasing xs → x ≤ get_or xs m 0 → (k : ℕ) → m ≤ k → k < length xs → x ≤ get_or xs k 0
above_middle xs m x sorted le k from within = omega (arith, sorted m k 0 from within)

pub rises_sorted : (xs : List ℕ) → Rises xs → IsNonDecreasing xs
rises_sorted xs rising i j d le within = by (cases_lt i j) where
  by : (i < j) ⊎ (j ≤ i) → get_or xs i d ≤ get_or xs j d
  by (inl lt) = omega (arith, rising i j d lt within)
  by (inr ge) = let e : i ≡ j = omega arith in subst (λ n. get_or xs i d ≤ get_or xs n d) e (omega arith)
