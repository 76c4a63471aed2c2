-- Lists of which the front passes a test, and the rest doesn't.
use Rattle.std.proofs.Common.{◌≡◌, ℕ, zero, suc, ◌-◌, ◌<◌, ◌≤◌, Bool, true, false, List, [], ◌∷◌, length, take, refl, ap, sym, ◌∙◌, arith}
use Rattle.std.proofs.lemmas.List.{take_all}
use Rattle.std.proofs.lemmas.List.Sums.{sum_by-cons}
use Rattle.std.specs.Prelude.{cond, slice_get, filter}
use Rattle.std.specs.List.{count_by, AllWithin}
use Rattle.field_model.specs.Shown.{last_of}

-- none passes
none_pass : {X : Type 0} (p : X → Bool) (xs : List X) → AllWithin (λ x. p x ≡ false) xs 0 (length xs) → (count_by p xs ≡ 0) × (filter p xs ≡ [])
none_pass p [] h = (refl, refl)
none_pass {X = X} p (x ∷ xs) h =
    let first : p x ≡ false = h 0 x (omega arith) (omega arith) in
    let rest = none_pass p xs (λ k d ge lt. h (suc k) d (omega arith) (omega arith)) in
    (sum_by-cons (λ (y : X). cond (p y) 1 0) x xs ∙ rw first (omega (arith, rest.0)), rw first rest.1)

-- just the front passes
pub front_passes : {X : Type 0} (p : X → Bool) (xs : List X) (n : ℕ) → n ≤ length xs → AllWithin (λ x. p x ≡ true) xs 0 n → AllWithin (λ x. p x ≡ false) xs n (length xs) → (count_by p xs ≡ n) × (filter p xs ≡ take n xs)
front_passes p xs zero le pass fail = let none = none_pass p xs fail in (none.0, none.1)
front_passes p [] (suc n) le pass fail = absurd (omega arith)
front_passes {X = X} p (x ∷ xs) (suc n) le pass fail =
    let first : p x ≡ true = pass 0 x (omega arith) (omega arith) in
    let rest = front_passes p xs n (omega arith) (λ k d ge lt. pass (suc k) d (omega arith) (omega arith)) (λ k d ge lt. fail (suc k) d (omega arith) (omega arith)) in
    (sum_by-cons (λ (y : X). cond (p y) 1 0) x xs ∙ rw first (omega (arith, rest.0)), rw first (ap (λ (ys : List X). x ∷ ys) rest.1))

-- the last one of a front
pub last_taken : {X : Type 0} (xs : List X) (n : ℕ) → n < length xs → last_of (take (suc n) xs) ≡ slice_get xs n
last_taken [] n lt = absurd (omega arith)
last_taken (x ∷ []) zero lt = refl
last_taken (x ∷ []) (suc n) lt = absurd (omega arith)
last_taken (x ∷ y ∷ xs) zero lt = refl
last_taken (x ∷ y ∷ xs) (suc n) lt = last_taken (y ∷ xs) n (omega arith)

pub last_front : {X : Type 0} (xs : List X) (n : ℕ) → (n ≡ 0 → ⊥) → n ≤ length xs → last_of (take n xs) ≡ slice_get xs (n - 1)
last_front xs zero some le = absurd (some refl)
last_front xs (suc n) some le = let same : n ≡ suc n - 1 = omega arith in last_taken xs n (omega arith) ∙ ap (λ (k : ℕ). slice_get xs k) same

pub last_whole : {X : Type 0} (xs : List X) (n : ℕ) → n ≡ length xs → (n ≡ 0 → ⊥) → slice_get xs (n - 1) ≡ last_of xs
last_whole xs n e some = sym (last_front xs n some (omega arith)) ∙ ap last_of (take_all n xs (omega arith))
