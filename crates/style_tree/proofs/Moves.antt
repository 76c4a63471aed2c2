-- What stands at the places of a list after an item came in or went.
use Rattle.std.proofs.Common.{◌≡◌, ℕ, ◌<◌, ◌≤◌, List, [], ◌∷◌, length, Some, zero, suc, refl, slice_get, insert, remove, arith}

module _ {X : Type 0} where
  -- before a new item all stays
  pub get-insert_before : (xs : List X) (at place : ℕ) (x : X) → at ≤ length xs → place < at → slice_get (insert xs at x) place ≡ slice_get xs place
  get-insert_before xs zero place x within before = absurd (omega (arith, before))
  get-insert_before [] (suc at) place x within before = absurd (omega (arith, within))
  get-insert_before (y ∷ ys) (suc at) zero x within before = refl
  get-insert_before (y ∷ ys) (suc at) (suc place) x within before = get-insert_before ys at place x (omega (arith, within)) (omega (arith, before))

  -- the new item stands at its place
  pub get-insert_at : (xs : List X) (at : ℕ) (x : X) → at ≤ length xs → slice_get (insert xs at x) at ≡ Some x
  get-insert_at xs zero x within = refl
  get-insert_at [] (suc at) x within = absurd (omega (arith, within))
  get-insert_at (y ∷ ys) (suc at) x within = get-insert_at ys at x (omega (arith, within))

  -- behind it all comes one place later
  pub get-insert_behind : (xs : List X) (at place : ℕ) (x : X) → at ≤ length xs → at ≤ place → slice_get (insert xs at x) (suc place) ≡ slice_get xs place
  get-insert_behind xs zero place x within behind = refl
  get-insert_behind [] (suc at) place x within behind = absurd (omega (arith, within))
  get-insert_behind (y ∷ ys) (suc at) zero x within behind = absurd (omega (arith, behind))
  get-insert_behind (y ∷ ys) (suc at) (suc place) x within behind = get-insert_behind ys at place x (omega (arith, within)) (omega (arith, behind))

  -- before the item that went all stays
  pub get-remove_before : (xs : List X) (at place : ℕ) → place < at → slice_get (remove xs at) place ≡ slice_get xs place
  get-remove_before xs zero place before = absurd (omega (arith, before))
  get-remove_before [] (suc at) place before = refl
  get-remove_before (y ∷ ys) (suc at) zero before = refl
  get-remove_before (y ∷ ys) (suc at) (suc place) before = get-remove_before ys at place (omega (arith, before))

  -- behind it all comes one place earlier
  pub get-remove_behind : (xs : List X) (at place : ℕ) → at ≤ place → slice_get (remove xs at) place ≡ slice_get xs (suc place)
  get-remove_behind [] zero place behind = refl
  get-remove_behind (y ∷ ys) zero place behind = refl
  get-remove_behind [] (suc at) place behind = refl
  get-remove_behind (y ∷ ys) (suc at) zero behind = absurd (omega (arith, behind))
  get-remove_behind (y ∷ ys) (suc at) (suc place) behind = get-remove_behind ys at place (omega (arith, behind))
