-- Numbers that are apart and below a bound, with one more and with fewer.
use Rattle.std.proofs.Common.{◌≡◌, ◌≢◌, ℕ, ◌+◌, ◌<◌, ◌≤◌, false, eqb, List, [], ◌∷◌, ◌++◌, arith}
use Rattle.std.specs.Prelude.{AllPairs, fold, max}
use Rattle.std.specs.List.{IsDistinct, AllByRecursion as Each}
use Rattle.std.proofs.Math.Nat.{le-max_left, le-max_right}
use Rattle.std.proofs.lemmas.Bool.Decides.{nat_tests, Decides-eqb}
use Rattle.std.proofs.lemmas.Map.Made.{AllPairs-from_IsDistinct, IsDistinct-from_AllPairs}
use Rattle.doc_model.specs.Limits.{greatest}
use Rattle.paragraph_rows.proofs.Lists.{each_front, each_behind, each_both}

abbrev pub Apart : List ℕ → Type 0
Apart numbers = AllPairs (λ left right. left ≢ right) numbers

abbrev pub Below : ℕ → List ℕ → Type 0
Below next numbers = Each (λ number. number < next) numbers

unequal : (m n : ℕ) → m < n → (eqb m n ≡ false) × (eqb n m ≡ false)
unequal m n below = (grind (arith, nat_tests), grind (arith, nat_tests))

above : (next : ℕ) (numbers : List ℕ) → Below next numbers → Each (λ number. eqb next number ≡ false) numbers
above next [] below = tt
above next (number ∷ numbers) below = ((unequal number next below.0).1, above next numbers below.1)

distinct_more : (next : ℕ) (xs ys : List ℕ) → IsDistinct eqb (xs ++ ys) → Below next (xs ++ ys) → IsDistinct eqb (xs ++ next ∷ ys)
unfolding IsDistinct
distinct_more next [] ys apart below = (above next ys below, apart)
distinct_more next (x ∷ xs) ys apart below = (
  each_both (λ y. eqb x y ≡ false) xs (next ∷ ys) (each_front (λ y. eqb x y ≡ false) xs ys apart.0) ((unequal x next below.0).0, each_behind (λ y. eqb x y ≡ false) xs ys apart.0),
  distinct_more next xs ys apart.1 below.1,
)

distinct_fewer : (xs ys zs : List ℕ) → IsDistinct eqb (xs ++ (ys ++ zs)) → IsDistinct eqb (xs ++ zs)
unfolding IsDistinct
distinct_fewer [] [] zs apart = apart
distinct_fewer [] (y ∷ ys) zs apart = distinct_fewer [] ys zs apart.1
distinct_fewer (x ∷ xs) ys zs apart = (
  each_both (λ y. eqb x y ≡ false) xs zs (each_front (λ y. eqb x y ≡ false) xs (ys ++ zs) apart.0) (each_behind (λ y. eqb x y ≡ false) ys zs (each_behind (λ y. eqb x y ≡ false) xs (ys ++ zs) apart.0)),
  distinct_fewer xs ys zs apart.1,
)

pub apart_more : (next : ℕ) (xs ys : List ℕ) → Apart (xs ++ ys) → Below next (xs ++ ys) → Apart (xs ++ next ∷ ys)
apart_more next xs ys apart below =
    AllPairs-from_IsDistinct Decides-eqb (xs ++ next ∷ ys) (distinct_more next xs ys (IsDistinct-from_AllPairs Decides-eqb (xs ++ ys) apart) below)

pub apart_fewer : (xs ys zs : List ℕ) → Apart (xs ++ (ys ++ zs)) → Apart (xs ++ zs)
apart_fewer xs ys zs apart = AllPairs-from_IsDistinct Decides-eqb (xs ++ zs) (distinct_fewer xs ys zs (IsDistinct-from_AllPairs Decides-eqb (xs ++ (ys ++ zs)) apart))

raised : (next : ℕ) (numbers : List ℕ) → Below next numbers → Below (next + 1) numbers
raised next [] below = tt
raised next (number ∷ numbers) below = (omega (arith, below.0), raised next numbers below.1)

pub below_more : (next : ℕ) (xs ys : List ℕ) → Below next (xs ++ ys) → Below (next + 1) (xs ++ next ∷ ys)
below_more next xs ys below =
    each_both (λ number. number < next + 1) xs (next ∷ ys) (raised next xs (each_front (λ number. number < next) xs ys below)) (omega arith, raised next ys (each_behind (λ number. number < next) xs ys below))

pub below_fewer : (next : ℕ) (xs ys zs : List ℕ) → Below next (xs ++ (ys ++ zs)) → Below next (xs ++ zs)
below_fewer next xs ys zs below =
    each_both (λ number. number < next) xs zs (each_front (λ number. number < next) xs (ys ++ zs) below) (each_behind (λ number. number < next) ys zs (each_behind (λ number. number < next) xs (ys ++ zs) below))

-- each number is below the one behind the greatest
grown : (start : ℕ) (numbers : List ℕ) → start ≤ fold max start numbers
grown start [] = omega arith
grown start (number ∷ numbers) = let first : start ≤ max start number = le-max_left start number in omega (arith, first, grown (max start number) numbers)

bounded : (start : ℕ) (numbers : List ℕ) → Below (fold max start numbers + 1) numbers
bounded start [] = tt
bounded start (number ∷ numbers) =
    let first : number ≤ max start number = le-max_right start number in
    (omega (arith, first, grown (max start number) numbers), bounded (max start number) numbers)

pub below_greatest : (numbers : List ℕ) → Below (greatest numbers + 1) numbers
below_greatest numbers = bounded 0 numbers
