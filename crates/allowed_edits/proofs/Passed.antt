-- Checks that find nothing.
use Rattle.std.proofs.Common.{◌≡◌, ◌≢◌, ◌≤◌, ℕ, Bool, true, false, cond, not, ◌||◌, List, [], ◌∷◌, refl, sym, arith, Option, Some, None}
use Rattle.std.specs.Prelude.{find, nat_lt, is_none, option_map}
use Rattle.std.specs.List.{AllByRecursion as Each}
use Rattle.std.proofs.lemmas.Bool.{false≢true}
use Rattle.std.proofs.lemmas.Bool.Decides.{nat_tests}
use Rattle.std.proofs.lemmas.Option.{none-some}
use Rattle.doc_model.specs.declared.refusal.Refusal.{Refusal}
use Rattle.edit_rules.specs.Refusals.{first_refusal_of, refused_if}

-- no check refuses
pub all_pass : (checks : List (Option Refusal)) → first_refusal_of checks ≡ None → Each (λ check. check ≡ None) checks
all_pass [] none = tt
all_pass (None ∷ checks) none = (refl, all_pass checks none)
all_pass (Some why ∷ checks) none = absurd (none-some why (sym none))

pub none_mapped : {X Y : Type 0} (f : X → Y) (given : Option X) → option_map f given ≡ None → given ≡ None
none_mapped f None none = refl
none_mapped f (Some x) none = absurd (none-some (f x) (sym none))

-- none passes the test that is looked for
pub none_found : {X : Type 0} (test : X → Bool) (xs : List X) → find test xs ≡ None → Each (λ x. test x ≡ false) xs
none_found test [] none = tt
none_found test (x ∷ xs) none = by (test x) refl none (none_found test xs) where
  by : (is : Bool) → test x ≡ is → cond is (Some x) (find test xs) ≡ None → (find test xs ≡ None → Each (λ x. test x ≡ false) xs) → Each (λ x. test x ≡ false) (x ∷ xs)
  by true same none more = absurd (none-some x (sym none))
  by false same none more = (same, more none)

pub not_refused : (test : Bool) (why : Refusal) → refused_if test why ≡ None → test ≡ false
not_refused true why none = absurd (none-some why (sym none))
not_refused false why none = refl

pub not_above : (count at : ℕ) → nat_lt count at ≡ false → at ≤ count
not_above count at test = grind (arith, nat_tests)

pub some_there : {X : Type 0} (given : Option X) → is_none given ≡ false → given ≢ None
some_there None test none = false≢true (sym test)
some_there (Some x) test none = none-some x (sym none)

pub not_not : (test : Bool) → not test ≡ false → test ≡ true
not_not true none = refl
not_not false none = absurd (false≢true (sym none))

pub neither : (one other : Bool) → (one || other) ≡ false → (one ≡ false) × (other ≡ false)
neither true other none = absurd (false≢true (sym none))
neither false other none = (refl, none)

-- what holds of each by what is tested of each
pub each_so : {X : Type 0} (test : X → Bool) (P : X → Type 0) → ((x : X) → test x ≡ false → P x) → (xs : List X) → Each (λ x. test x ≡ false) xs → Each P xs
each_so test P so [] each = tt
each_so test P so (x ∷ xs) each = (so x each.0, each_so test P so xs each.1)
