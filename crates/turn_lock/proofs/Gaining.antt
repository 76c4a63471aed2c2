-- What a history gains beyond what a seat has seen, and the numbers of two seats.
use Rattle.std.proofs.Common.{◌≡◌, ℕ, zero, suc, ◌<◌, ◌≤◌, List, [], ◌∷◌, ◌++◌, length, Bool, true, false, cond, eqb, nat_lt, Contains, refl, sym, ap, ◌∙◌, arith, append_assoc, append-nil, ◌⊎◌, inl, inr, ⊎_elim}
use Rattle.std.proofs.lemmas.List.Elements.{Contains-append_cases, filter-append}
use Rattle.std.proofs.lemmas.Bool.Decides.{nat_tests}
use Rattle.turn_lock.specs.declared.machine.Entry.{Entry}
use Rattle.turn_lock.specs.declared.view.Known.{Known}
use Rattle.turn_lock.specs.History.{calls_of}
use Rattle.turn_lock.specs.Numbers.{one_to, Has, HasNoneOf, Gains, numbers_of}
use Rattle.turn_lock.specs.Rule.{longer, both}
use Rattle.turn_lock.proofs.Histories.{shorter_begins, of_both, of_left, of_right}

pub not_in_empty : (n : ℕ) → Contains [] n → ⊥
not_in_empty n c = let lt = c.1 in omega arith

in_cons : (x : ℕ) (xs : List ℕ) (n : ℕ) → Contains (x ∷ xs) n → (n ≡ x) ⊎ Contains xs n
in_cons x xs n (zero, lt, e) = inl (sym e)
in_cons x xs n (suc k, lt, e) = inr (k, omega arith, e)

in_one_to : (m n : ℕ) → Contains (one_to m) n → (0 < n) × (n ≤ m)
in_one_to zero n c = absurd (not_in_empty n c)
in_one_to (suc m) n c = ⊎_elim (λ (l : Contains (one_to m) n). let p = in_one_to m n l in (p.0, omega arith))
    (λ (r : Contains (suc m ∷ []) n). ⊎_elim (λ (e : n ≡ suc m). (omega arith, omega arith)) (λ (z : Contains [] n). absurd (not_in_empty n z)) (in_cons (suc m) [] n r))
    (Contains-append_cases (one_to m) (suc m ∷ []) n c)

swapped : {X Y : Type 0} → X ⊎ Y → Y ⊎ X
swapped (inl x) = inr x
swapped (inr y) = inl y

module _ {M C R S : Type 0} where
  -- the list of a seat's numbers has no other
  pub in_numbers : (k : Known M C R S) (n : ℕ) → Contains (numbers_of k) n → Has k n
  in_numbers k n c = ⊎_elim (λ (e : n ≡ k.number). inl e)
      (λ (r : Contains (one_to k.left ++ k.joined) n). ⊎_elim (λ (l : Contains (one_to k.left) n). inr (inl (in_one_to k.left n l))) (λ (j : Contains k.joined n). inr (inr j))
      (Contains-append_cases (one_to k.left) k.joined n r)) (in_cons k.number (one_to k.left ++ k.joined) n c)

  pub gains_itself : (k : Known M C R S) (h : List (Entry M C R S)) → k.seen ≡ h → Gains k h
  gains_itself k h e = ([], sym e ∙ sym (append-nil k.seen), λ n _. refl)

  -- more entries of other seats
  pub gains_more : (k : Known M C R S) (h es : List (Entry M C R S)) → Gains k h → HasNoneOf k es → Gains k (h ++ es)
  gains_more k h es g none = (g.0 ++ es, ap (λ x. x ++ es) g.1 ∙ append_assoc k.seen g.0 es, λ n has. of_both n g.0 es (g.2 n has) (none n has))

  longer_by : (xs ys : List (Entry M C R S)) (b : Bool) → nat_lt (length xs) (length ys) ≡ b → (P : List (Entry M C R S) → Type 0) → (length xs ≤ length ys → P ys) → (length ys ≤ length xs → P xs) → P (cond b ys xs)
  longer_by xs ys true e P hit miss = hit (grind (arith, nat_tests))
  longer_by xs ys false e P hit miss = miss (grind (arith, nat_tests))

  pub by_length : (xs ys : List (Entry M C R S)) (P : List (Entry M C R S) → Type 0) → (length xs ≤ length ys → P ys) → (length ys ≤ length xs → P xs) → P (longer xs ys)
  by_length xs ys P hit miss = longer_by xs ys (nat_lt (length xs) (length ys)) refl P hit miss

  gains_within : (k l : Known M C R S) (h : List (Entry M C R S)) → Gains k h → Gains l h → length k.seen ≤ length l.seen → Gains k l.seen
  gains_within k l h a b le = let t = shorter_begins k.seen a.0 l.seen b.0 (sym a.1 ∙ b.1) le in
      (t.0, t.1, λ n has. of_left n t.0 b.0 (ap (calls_of n) (sym t.2) ∙ a.2 n has))

  -- each of two seats has seen a beginning of the longer of their histories, which has no further entry of its numbers
  pub gains_longer : (k l : Known M C R S) (h : List (Entry M C R S)) → Gains k h → Gains l h → Gains k (longer k.seen l.seen) × Gains l (longer k.seen l.seen)
  gains_longer k l h a b = by_length k.seen l.seen (λ x. Gains k x × Gains l x) (λ le. (gains_within k l h a b le, gains_itself l l.seen refl)) (λ le. (gains_itself k k.seen refl, gains_within l k h b a le))

  pub has_both : (k l : Known M C R S) (n : ℕ) → Has (both k l) n → Has k n ⊎ Has l n
  has_both k l n (inl e) = inl (inl e)
  has_both k l n (inr (inl u)) = inl (inr (inl u))
  has_both k l n (inr (inr c)) = ⊎_elim (λ (x : Contains k.joined n). inl (inr (inr x))) (λ (x : Contains (numbers_of l) n). inr (in_numbers l n x)) (Contains-append_cases k.joined (numbers_of l) n c)

  rest_of : (k l : Known M C R S) (h : List (Entry M C R S)) (a : Gains k h) (b : Gains l h) → length k.seen ≤ length l.seen → (n : ℕ) → Has k n ⊎ Has l n → calls_of n b.0 ≡ []
  rest_of k l h a b le n (inr has) = b.2 n has
  rest_of k l h a b le n (inl has) = let t = shorter_begins k.seen a.0 l.seen b.0 (sym a.1 ∙ b.1) le in of_right n t.0 b.0 (ap (calls_of n) (sym t.2) ∙ a.2 n has)

  pub gains_both : (k l : Known M C R S) (h : List (Entry M C R S)) → Gains k h → Gains l h → Gains (both k l) h
  gains_both k l h a b = let P : List (Entry M C R S) → Type 0 = λ x. (more : List (Entry M C R S)) × (h ≡ x ++ more) × ((n : ℕ) → Has k n ⊎ Has l n → calls_of n more ≡ []) in
      let t : P (longer k.seen l.seen) = by_length k.seen l.seen P (λ le. (b.0, b.1, rest_of k l h a b le)) (λ le. (a.0, a.1, λ n has. rest_of l k h b a le n (swapped has))) in
      (t.0, t.1, λ n has. t.2 n (has_both k l n has))

  -- the entries of one of the seat's numbers are those that it had seen
  pub gains_of : (k : Known M C R S) (h : List (Entry M C R S)) → Gains k h → (n : ℕ) → Has k n → calls_of n h ≡ calls_of n k.seen
  gains_of k h g n has = ap (calls_of n) g.1 ∙ (filter-append (λ (e : Entry M C R S). eqb e.caller n) k.seen g.0 ∙ (ap (λ x. calls_of n k.seen ++ x) (g.2 n has) ∙ append-nil (calls_of n k.seen)))
