-- How often numbers stand in lists, and where they are found.
use Rattle.std.proofs.Common.{◌≡◌, ℕ, ◌+◌, ◌<◌, ◌≤◌, List, [], ◌∷◌, ◌++◌, length, get_or, take, drop, Bool, true, false, cond, eqb, zero, suc, refl, ap, ◌∙◌, subst, arith, take-append-drop, eq-eqb, ◌⊎◌, inl, inr}
use Rattle.std.specs.List.{insert, remove}
use Rattle.std.specs.List.Sorted.{IsNonDecreasing}
use Rattle.std.proofs.Math.Seq.{drop-cons}
use Rattle.std.proofs.lemmas.List.Quantifiers.{all_pairs_remove}
use Rattle.std.proofs.lemmas.Bool.{cases_lt}
use Rattle.std.proofs.lemmas.Bool.Decides.{nat_tests}
use Rattle.tagged_list.specs.Keeps.{times}

pub times_append : (x : ℕ) (xs ys : List ℕ) → times x (xs ++ ys) ≡ times x xs + times x ys
times_append x [] ys = omega arith
times_append x (y ∷ xs) ys = omega (arith, times_append x xs ys)

pub times_insert : (x : ℕ) (xs : List ℕ) (i y : ℕ) → times x (insert xs i y) ≡ times x xs + times x (y ∷ [])
times_insert x xs i y =
    let whole = ap (times x) (take-append-drop i xs) in
    omega (arith, whole, times_append x (take i xs) (drop i xs), times_append x (take i xs) (y ∷ drop i xs))

pub times_remove : (x : ℕ) (xs : List ℕ) (i y : ℕ) → i < length xs → get_or xs i 0 ≡ y → times x (remove xs i) + times x (y ∷ []) ≡ times x xs
times_remove x xs i y within is =
    let whole = ap (times x) (take-append-drop i xs) in
    let rest = ap (times x) (drop-cons xs i 0 within ∙ ap (λ (z : ℕ). z ∷ drop (suc i) xs) is) in
    omega (arith, whole, rest, times_append x (take i xs) (drop i xs), times_append x (take i xs) (drop (suc i) xs))

-- the number stands in front, or behind
found_in : (x y : ℕ) (xs : List ℕ) (b : Bool) → eqb y x ≡ b → 0 < cond b 1 0 + times x xs → (0 < times x xs → (k : ℕ) × (k < length xs) × (get_or xs k 0 ≡ x)) → (k : ℕ) × (k < length (y ∷ xs)) × (get_or (y ∷ xs) k 0 ≡ x)
found_in x y xs true e h more = (0, omega arith, grind (arith, nat_tests))
found_in x y xs false e h more = let rest = more (omega arith) in (suc rest.0, omega (arith, rest.1), rest.2)

pub found : (x : ℕ) (xs : List ℕ) → 0 < times x xs → (k : ℕ) × (k < length xs) × (get_or xs k 0 ≡ x)
found x [] h = absurd (omega arith)
found x (y ∷ xs) h = found_in x y xs (eqb y x) refl h (found x xs)

pub times_at : (xs : List ℕ) (k : ℕ) → k < length xs → 0 < times (get_or xs k 0) xs
times_at [] k within = absurd (omega arith)
times_at (y ∷ xs) zero within =
    let f : Bool → ℕ = λ b. cond b 1 0 in
    omega (arith, ap f (eq-eqb y y refl))
times_at (y ∷ xs) (suc k) within = omega (arith, times_at xs k (omega arith))

-- where a number stands in a list in order, the first place of no lower number is its own
pub place_holds : (xs : List ℕ) (x place : ℕ) → IsNonDecreasing xs → place ≤ length xs → ((k : ℕ) → k < place → get_or xs k 0 < x) → ((k : ℕ) → place ≤ k → k < length xs → x ≤ get_or xs k 0) → 0 < times x xs → (place < length xs) × (get_or xs place 0 ≡ x)
place_holds xs x place sorted within below above there =
    let at = found x xs there in by (cases_lt at.0 place) at.1 at.2 where
      by : {k : ℕ} → (k < place) ⊎ (place ≤ k) → k < length xs → get_or xs k 0 ≡ x → (place < length xs) × (get_or xs place 0 ≡ x)
      by {k} (inl lt) inside is = absurd (omega (arith, below k lt))
      by {k} (inr le) inside is = (omega arith, omega (arith, sorted place k 0 le inside, above place (omega arith) (omega arith)))

pub sorted_remove : (xs : List ℕ) (n : ℕ) → n < length xs → IsNonDecreasing xs → IsNonDecreasing (remove xs n)
sorted_remove xs n within sorted i j d le inside = by (cases_lt i j) where
  by : (i < j) ⊎ (j ≤ i) → get_or (remove xs n) i d ≤ get_or (remove xs n) j d
  by (inl lt) = all_pairs_remove (λ x y. x ≤ y) xs n within (λ a b e under in_. sorted a b e (omega arith) in_) i j d lt inside
  by (inr ge) = let e : i ≡ j = omega arith in subst (λ m. get_or (remove xs n) i d ≤ get_or (remove xs n) m d) e (omega arith)
