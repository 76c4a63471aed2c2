-- What a call leaves a seat with.
use Rattle.std.proofs.Common.{◌≡◌, ◌≢◌, ℕ, ◌+◌, ◌<◌, ◌≤◌, List, [], ◌∷◌, ◌++◌, length, refl, sym, ap, ◌∙◌, arith, subst, inl, inr, length-append, Contains}
use Rattle.std.specs.Prelude.{Result, Ok, Err, OnErr}
use Rattle.turn_lock.specs.declared.machine.Entry.{Entry}
use Rattle.turn_lock.specs.declared.view.Known.{Known}
use Rattle.turn_lock.specs.History.{calls_of}
use Rattle.turn_lock.specs.Numbers.{IsUngiven, IsApart, SameNumbers, HasNoneOf, Gains}
use Rattle.turn_lock.proofs.Histories.{of_own}
use Rattle.turn_lock.proofs.Gaining.{gains_of}

-- a fact holds at any error
pub on_err : {T E : Type 0} (r : Result T E) (P : Type 0) → P → OnErr r P
on_err (Ok x) P p = tt
on_err (Err y) P p = p

-- a seat's own number stays none of its others
pub apart_still : {M C R S : Type 0} (k l : Known M C R S) → SameNumbers k l → IsApart k k.number → IsApart l l.number
apart_still k l same apart = let number : l.number ≡ k.number = same.0 in let left : l.left ≡ k.left = same.1 in record {
  ungiven = λ u. let low = u.0 in let high = u.1 in apart.ungiven (omega arith, omega arith);
  joined = λ c. apart.joined (subst (λ xs. Contains xs k.number) same.2 (subst (Contains l.joined) number c));
}

module _ {M C R S : Type 0} (k : Known M C R S) (h s : List (Entry M C R S)) (gains : Gains k h) where
  -- no entry has a number that the seat has yet to give
  pub ungiven_after : ((n : ℕ) → n ≢ k.number → calls_of n s ≡ calls_of n h) → IsApart k k.number → ((n : ℕ) → 0 < n → n ≤ k.left → length (calls_of n k.seen) ≡ 0)
      → (n : ℕ) → 0 < n → n ≤ k.left → length (calls_of n s) ≡ 0
  ungiven_after others apart before n low high = let other : n ≢ k.number = λ e. apart.ungiven (subst (IsUngiven k) e (low, high)) in
      ap length (others n other) ∙ (ap length (gains_of k h gains n (inr (inl (low, high)))) ∙ before n low high)

  -- the history after an entry
  pub grown_by : (e : Entry M C R S) → s ≡ h ++ e ∷ [] → (between : List (Entry M C R S)) × (s ≡ (k.seen ++ between) ++ e ∷ []) × HasNoneOf k between
  grown_by e grown = (gains.0, grown ∙ ap (λ x. x ++ e ∷ []) gains.1, gains.2)

  pub number_is : (e : Entry M C R S) → s ≡ h ++ e ∷ [] → e.number ≡ length h + 1 → e.number ≡ length s
  number_is e grown number = number ∙ sym (ap length grown ∙ length-append h (e ∷ []))

  pub own_after : (e : Entry M C R S) → s ≡ h ++ e ∷ [] → e.caller ≡ k.number → calls_of k.number s ≡ calls_of k.number k.seen ++ e ∷ []
  own_after e grown mine = ap (calls_of k.number) grown ∙ (of_own k.number h e mine ∙ ap (λ x. x ++ e ∷ []) (gains_of k h gains k.number (inl refl)))

  pub own_kept : s ≡ h → calls_of k.number s ≡ calls_of k.number k.seen
  own_kept same = ap (calls_of k.number) same ∙ gains_of k h gains k.number (inl refl)
