-- Things with numbers that ascend, which are found again number by number.
use Rattle.std.proofs.Common.{◌≡◌, ℕ, ◌≤◌, ◌<◌, ◌+◌, ◌==◌, Bool, true, false, cond, List, [], ◌∷◌, ◌++◌, filter, refl, ap, ap₂, ◌∙◌, arith, zero, suc, ne_eqb, eqb-true, ◌≢◌}
use Rattle.std.proofs.lemmas.Bool.{eqb-false}
use Rattle.std.specs.List.{flat_map, AllByRecursion as Each}
use Rattle.tree_places.proofs.Within.{Pairs}

-- so many numbers from one on
abbrev pub numbers : ℕ → ℕ → List ℕ
numbers least zero = []
numbers least (suc more) = least ∷ numbers (least + 1) more

eqb_less : (n m : ℕ) → n < m → (m == n) ≡ false
eqb_less n m less = ne_eqb m n (λ e. omega arith)

above : (n m : ℕ) → (n == m) ≡ false → m ≤ n → m < n
above n m e low = let differ : n ≢ m = eqb-false n m e in omega arith

module _ {X : Type 0} (number : X → ℕ) where
  abbrev IsAscending : List X → Type 0
  IsAscending xs = Pairs (λ one other. number one < number other) xs

  -- those of a number
  abbrev pub numbered : ℕ → List X → List X
  numbered wanted xs = filter (λ x. number x == wanted) xs

  none_of : (wanted : ℕ) (xs : List X) → Each (λ x. wanted < number x) xs → numbered wanted xs ≡ []
  none_of wanted [] above = refl
  none_of wanted (x ∷ xs) above = ap₂ (λ (is : Bool) (more : List X). cond is (x ∷ more) more) (eqb_less wanted (number x) above.0) (none_of wanted xs above.1)

  -- all are above where the first is
  above_first : (least : ℕ) (x : X) (xs : List X) → least ≤ number x → Each (λ other. number x < number other) xs → Each (λ other. least < number other) xs
  above_first least x [] low above = tt
  above_first least x (y ∷ xs) low above = (omega arith, above_first least x xs low above.1)

  passed : (least more : ℕ) (x : X) (xs : List X) → number x < least → flat_map (λ wanted. numbered wanted (x ∷ xs)) (numbers least more) ≡ flat_map (λ wanted. numbered wanted xs) (numbers least more)
  passed least zero x xs less = refl
  passed least (suc more) x xs less = ap₂ (λ (is : Bool) (rest : List X). cond is (x ∷ numbered least xs) (numbered least xs) ++ rest) (other least less) (passed (least + 1) more x xs (omega arith)) where
    other : (n : ℕ) → number x < n → (number x == n) ≡ false
    other n low = ne_eqb (number x) n (λ e. omega arith)

  abbrev Are : ℕ → ℕ → List X → Type 0
  Are least more xs = Each (λ x. (least ≤ number x) × (number x < least + more)) xs

  none_there : (least : ℕ) (xs : List X) → Are least 0 xs → [] ≡ xs
  none_there least [] are = refl
  none_there least (x ∷ xs) are = absurd (omega arith)

  further : (least more : ℕ) (xs : List X) → Each (λ x. least < number x) xs → Are least (suc more) xs → Are (least + 1) more xs
  further least more [] above are = tt
  further least more (x ∷ xs) above are = ((omega arith, omega arith), further least more xs above.1 are.1)

  sorted_first : (least more : ℕ) (x : X) (xs : List X) → least ≤ number x → Each (λ other. least < number other) xs
      → ((number x ≡ least) → flat_map (λ wanted. numbered wanted xs) (numbers (least + 1) more) ≡ xs)
      → ((least < number x) → flat_map (λ wanted. numbered wanted (x ∷ xs)) (numbers (least + 1) more) ≡ x ∷ xs)
      → flat_map (λ wanted. numbered wanted (x ∷ xs)) (numbers least (suc more)) ≡ x ∷ xs
  sorted_first least more x xs low behind here later = by_number (number x == least) refl where
    by_number : (is : Bool) → (number x == least) ≡ is → flat_map (λ wanted. numbered wanted (x ∷ xs)) (numbers least (suc more)) ≡ x ∷ xs
    by_number true e =
        ap₂ (λ (so : Bool) (rest : List X). cond so (x ∷ numbered least xs) (numbered least xs) ++ rest) e (passed (least + 1) more x xs (just_below (number x) (eqb-true (number x) least e)))
        ∙ ap (λ (own : List X). x ∷ (own ++ flat_map (λ wanted. numbered wanted xs) (numbers (least + 1) more))) (none_of least xs behind)
        ∙ ap (λ (rest : List X). x ∷ rest) (here (eqb-true (number x) least e))
      where
        just_below : (n : ℕ) → n ≡ least → n < least + 1
        just_below n same = omega arith
    by_number false e =
        ap (λ (so : Bool). cond so (x ∷ numbered least xs) (numbered least xs) ++ flat_map (λ wanted. numbered wanted (x ∷ xs)) (numbers (least + 1) more)) e
        ∙ ap (λ (own : List X). own ++ flat_map (λ wanted. numbered wanted (x ∷ xs)) (numbers (least + 1) more)) (none_of least xs behind)
        ∙ later (above (number x) least e low)

  pub sorted : (least more : ℕ) (xs : List X) → IsAscending xs → Are least more xs → flat_map (λ wanted. numbered wanted xs) (numbers least more) ≡ xs
  sorted least zero xs ascending are = none_there least xs are
  sorted least (suc more) [] ascending are = sorted (least + 1) more [] tt tt
  sorted least (suc more) (x ∷ xs) ascending are =
      let behind : Each (λ other. least < number other) xs = above_first least x xs are.0.0 ascending.0 in
      sorted_first least more x xs are.0.0 behind (λ same. sorted (least + 1) more xs ascending.1 (further least more xs behind are.1))
      (λ low. sorted (least + 1) more (x ∷ xs) ascending (further least more (x ∷ xs) (low, behind) are))
