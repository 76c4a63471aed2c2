-- An edit of a list and the edit that takes it back, as the tests' target makes them.
use Rattle.std.proofs.Common.{◌≡◌, ℕ, zero, suc, ◌<◌, ◌≤◌, List, [], ◌∷◌, length, ap, refl, arith}
use Rattle.std.specs.Prelude.{slice_set, slice_index, insert, remove}

module _ (x : ℕ) where
  pub remove-insert : (xs : List ℕ) (i : ℕ) → i ≤ length xs → remove (insert xs i x) i ≡ xs
  remove-insert xs zero below = refl
  remove-insert [] (suc i) below = absurd (omega (arith, below))
  remove-insert (y ∷ xs) (suc i) below = ap (λ ys. y ∷ ys) (remove-insert xs i (omega (arith, below)))

  pub insert-fits : (xs : List ℕ) (i : ℕ) → i ≤ length xs → i < length (insert xs i x)
  insert-fits [] zero below = omega arith
  insert-fits (y ∷ xs) zero below = omega arith
  insert-fits [] (suc i) below = absurd (omega (arith, below))
  insert-fits (y ∷ xs) (suc i) below = let rest : i < length (insert xs i x) = insert-fits xs i (omega (arith, below)) in omega (arith, rest)

  pub set-fits : (xs : List ℕ) (i : ℕ) → i < length xs → i < length (slice_set xs i x)
  set-fits [] i below = absurd (omega (arith, below))
  set-fits (y ∷ xs) zero below = omega arith
  set-fits (y ∷ xs) (suc i) below = let rest : i < length (slice_set xs i x) = set-fits xs i (omega (arith, below)) in omega (arith, rest)

  pub set-set : (xs : List ℕ) (i : ℕ) → i < length xs → slice_set (slice_set xs i x) i (slice_index xs i) ≡ xs
  set-set [] i below = absurd (omega (arith, below))
  set-set (y ∷ xs) zero below = refl
  set-set (y ∷ xs) (suc i) below = ap (λ ys. y ∷ ys) (set-set xs i (omega (arith, below)))

pub insert-remove : (xs : List ℕ) (i : ℕ) → i < length xs → insert (remove xs i) i (slice_index xs i) ≡ xs
insert-remove [] i below = absurd (omega (arith, below))
insert-remove (y ∷ xs) zero below = refl
insert-remove (y ∷ xs) (suc i) below = ap (λ ys. y ∷ ys) (insert-remove xs i (omega (arith, below)))

pub remove-fits : (xs : List ℕ) (i : ℕ) → i < length xs → i ≤ length (remove xs i)
remove-fits [] i below = absurd (omega (arith, below))
remove-fits (y ∷ xs) zero below = omega arith
remove-fits (y ∷ xs) (suc i) below = let rest : i ≤ length (remove xs i) = remove-fits xs i (omega (arith, below)) in omega (arith, rest)
