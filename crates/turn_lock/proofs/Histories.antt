-- Laws of lists and histories.
use Rattle.std.proofs.Common.{◌≡◌, ◌≢◌, ℕ, zero, suc, ◌+◌, ◌≤◌, List, [], ◌∷◌, ◌++◌, length, cond, eqb, set, All, refl, sym, ap, ◌∙◌, arith, ne_eqb, eq-eqb, append-nil, ◌⊎◌, inl, inr}
use Rattle.std.proofs.lemmas.List.Elements.{filter-append}
use mathlib.Core.Option.{some, some-ne-none, some-injective}
use lib.ListN.{get_elem?}
use Rattle.turn_lock.specs.declared.machine.Entry.{Entry}
use Rattle.turn_lock.specs.History.{state_after, calls_of, IsLegalAfter}

module _ {A : Type 0} where
  -- the element at a place, after a write there
  pub set_there : (l : List A) (i : ℕ) (a b : A) → get_elem? l i ≡ some a → get_elem? (set l i b) i ≡ some b
  set_there [] i a b e = absurd (some-ne-none a (sym e))
  set_there (x ∷ xs) zero a b e = refl
  set_there (x ∷ xs) (suc i) a b e = set_there xs i a b e

  -- an element of a list with one more at its end
  pub at_end : (l : List A) (a b : A) (j : ℕ) → get_elem? (l ++ a ∷ []) j ≡ some b → (get_elem? l j ≡ some b) ⊎ ((j ≡ length l) × (a ≡ b))
  at_end [] a b zero e = inr (refl, some-injective a b e)
  at_end [] a b (suc j) e = absurd (some-ne-none b (sym e))
  at_end (x ∷ xs) a b zero e = inl e
  at_end (x ∷ xs) a b (suc j) e = ends (at_end xs a b j e)
    where
      ends : (get_elem? xs j ≡ some b) ⊎ ((j ≡ length xs) × (a ≡ b)) → (get_elem? xs j ≡ some b) ⊎ ((suc j ≡ suc (length xs)) × (a ≡ b))
      ends (inl e) = inl e
      ends (inr p) = inr (ap suc p.0, p.1)

  pub first_empty : (xs ys : List A) → xs ++ ys ≡ [] → xs ≡ []
  first_empty [] ys e = refl
  first_empty (x ∷ xs) ys e = cc

  pub second_empty : (xs ys : List A) → xs ++ ys ≡ [] → ys ≡ []
  second_empty [] ys e = e
  second_empty (x ∷ xs) ys e = cc

  pub all_one : (P : A → Type 0) (a : A) → P a → All P (a ∷ [])
  all_one P a p zero d h = p
  all_one P a p (suc k) d h = absurd (omega arith)

  pub all_left : (P : A → Type 0) (xs ys : List A) → All P (xs ++ ys) → All P xs
  all_left P [] ys h k d lt = absurd (omega arith)
  all_left P (x ∷ xs) ys h zero d lt = h 0 d (omega arith)
  all_left P (x ∷ xs) ys h (suc k) d lt = all_left P xs ys (λ j e l. h (suc j) e (omega arith)) k d (omega arith)

  -- of two beginnings of one list, the shorter begins the longer
  pub shorter_begins : (xs p ys q : List A) → xs ++ p ≡ ys ++ q → length xs ≤ length ys → (mid : List A) × (ys ≡ xs ++ mid) × (p ≡ mid ++ q)
  shorter_begins [] p ys q e le = (ys, refl, e)
  shorter_begins (x ∷ xs) p [] q e le = absurd (omega arith)
  shorter_begins (x ∷ xs) p (y ∷ ys) q e le = let tails : xs ++ p ≡ ys ++ q = cc in let heads : x ≡ y = cc in let t = shorter_begins xs p ys q tails (omega arith) in (t.0, (λ i. sym heads i ∷ t.1 i), t.2)

module _ {M C R S : Type 0} where
  -- the state after one more call
  pub state_after_snoc : (after : S → C → S) (s : S) (h : List (Entry M C R S)) (e : Entry M C R S) → state_after after s (h ++ e ∷ []) ≡ after (state_after after s h) e.cmd
  state_after_snoc after s [] e = refl
  state_after_snoc after s (x ∷ xs) e = state_after_snoc after (after s x.cmd) xs e

  -- one more call, with the reply that the machine gives there
  pub legal_snoc : (reply : S → C → R) (after : S → C → S) (n : ℕ) (s : S) (h : List (Entry M C R S)) (e : Entry M C R S) → IsLegalAfter reply after n s h → e.number ≡ n + length h + 1 → e.reply ≡ reply (state_after after s h) e.cmd
      → IsLegalAfter reply after n s (h ++ e ∷ [])
  legal_snoc reply after n s [] e l number r = (omega arith, r, tt)
  legal_snoc reply after n s (x ∷ xs) e l number r = (l.0, l.1, legal_snoc reply after (n + 1) (after s x.cmd) xs e l.2 (omega arith) r)

  pub legal_left : (reply : S → C → R) (after : S → C → S) (n : ℕ) (s : S) (xs ys : List (Entry M C R S)) → IsLegalAfter reply after n s (xs ++ ys) → IsLegalAfter reply after n s xs
  legal_left reply after n s [] ys l = tt
  legal_left reply after n s (x ∷ xs) ys l = (l.0, l.1, legal_left reply after (n + 1) (after s x.cmd) xs ys l.2)

  -- another caller's entry
  pub not_of : (n : ℕ) (e : Entry M C R S) → e.caller ≢ n → calls_of n (e ∷ []) ≡ []
  not_of n e other = ap (λ b. cond b (e ∷ []) []) (ne_eqb e.caller n other)

  -- a caller's own entry
  pub just_of : (n : ℕ) (e : Entry M C R S) → e.caller ≡ n → calls_of n (e ∷ []) ≡ e ∷ []
  just_of n e same = ap (λ b. cond b (e ∷ []) []) (eq-eqb e.caller n same)

  pub of_both : (n : ℕ) (xs ys : List (Entry M C R S)) → calls_of n xs ≡ [] → calls_of n ys ≡ [] → calls_of n (xs ++ ys) ≡ []
  of_both n xs ys a b = filter-append (λ (e : Entry M C R S). eqb e.caller n) xs ys ∙ (λ i. a i ++ b i)

  pub of_left : (n : ℕ) (xs ys : List (Entry M C R S)) → calls_of n (xs ++ ys) ≡ [] → calls_of n xs ≡ []
  of_left n xs ys e = first_empty (calls_of n xs) (calls_of n ys) (sym (filter-append (λ (x : Entry M C R S). eqb x.caller n) xs ys) ∙ e)

  pub of_right : (n : ℕ) (xs ys : List (Entry M C R S)) → calls_of n (xs ++ ys) ≡ [] → calls_of n ys ≡ []
  of_right n xs ys e = second_empty (calls_of n xs) (calls_of n ys) (sym (filter-append (λ (x : Entry M C R S). eqb x.caller n) xs ys) ∙ e)

  -- another caller's entry at the end
  pub of_others : (n : ℕ) (h : List (Entry M C R S)) (e : Entry M C R S) → e.caller ≢ n → calls_of n (h ++ e ∷ []) ≡ calls_of n h
  of_others n h e other = filter-append (λ (x : Entry M C R S). eqb x.caller n) h (e ∷ []) ∙ (ap (λ x. calls_of n h ++ x) (not_of n e other) ∙ append-nil (calls_of n h))

  -- a caller's own entry at the end
  pub of_own : (n : ℕ) (h : List (Entry M C R S)) (e : Entry M C R S) → e.caller ≡ n → calls_of n (h ++ e ∷ []) ≡ calls_of n h ++ e ∷ []
  of_own n h e same = filter-append (λ (x : Entry M C R S). eqb x.caller n) h (e ∷ []) ∙ ap (λ x. calls_of n h ++ x) (just_of n e same)
