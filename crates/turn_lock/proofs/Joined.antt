-- A seat to which three others were joined.
use Rattle.std.proofs.Common.{◌≡◌, ℕ, zero, suc, ◌<◌, List, ◌++◌, Contains, refl, sym, arith, subst, inl, inr, ◌⊎◌, ⊎_elim}
use Rattle.std.proofs.lemmas.List.Elements.{Contains-append_left, Contains-append_right}
use Rattle.turn_lock.specs.declared.view.Known.{Known}
use Rattle.turn_lock.specs.Numbers.{Has, numbers_of}

below_four : (n : ℕ) → n < 4 → (n ≡ 0) ⊎ ((n ≡ 1) ⊎ ((n ≡ 2) ⊎ (n ≡ 3)))
below_four zero l = inl refl
below_four (suc zero) l = inr (inl refl)
below_four (suc (suc zero)) l = inr (inr (inl refl))
below_four (suc (suc (suc n))) l = inr (inr (inr (omega arith)))

module _ {M C R S : Type 0} where
  own_number : (k : Known M C R S) (n : ℕ) → k.number ≡ n → Contains (numbers_of k) n
  own_number k n e = (0, omega arith, e)

  pub has_four : (k : Known M C R S) (j : List ℕ) (a b d : Known M C R S) → k.number ≡ 0 → k.joined ≡ ((j ++ numbers_of a) ++ numbers_of b) ++ numbers_of d → a.number ≡ 1 → b.number ≡ 2 → d.number ≡ 3
      → (n : ℕ) → n < 4 → Has k n
  has_four k j a b d none joined one two three n l = let back : Contains (((j ++ numbers_of a) ++ numbers_of b) ++ numbers_of d) n → Has k n = λ c. inr (inr (subst (λ xs. Contains xs n) (sym joined) c)) in
      ⊎_elim (λ (e : n ≡ 0). inl (omega arith))
      (λ (r : (n ≡ 1) ⊎ ((n ≡ 2) ⊎ (n ≡ 3))). ⊎_elim
      (λ (e : n ≡ 1). back (Contains-append_left _ _ n (Contains-append_left _ _ n (Contains-append_right j (numbers_of a) n (own_number a n (omega arith))))))
      (λ (q : (n ≡ 2) ⊎ (n ≡ 3)). ⊎_elim
      (λ (e : n ≡ 2). back (Contains-append_left _ _ n (Contains-append_right (j ++ numbers_of a) (numbers_of b) n (own_number b n (omega arith)))))
      (λ (e : n ≡ 3). back (Contains-append_right ((j ++ numbers_of a) ++ numbers_of b) (numbers_of d) n (own_number d n (omega arith)))) q) r) (below_four n l)
