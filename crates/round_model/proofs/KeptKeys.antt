-- Which keys are kept after a further one, and how many.
use Rattle.std.proofs.Common.{◌≡◌, ◌≢◌, ◌≤◌, Bool, true, false, List, [], ◌∷◌, ◌++◌, length, length-append, refl, ap, sym, ◌∙◌, subst, arith}
use Rattle.std.specs.Prelude.{◌==◌, ◌||◌, if◌then◌else◌}
use Rattle.std.specs.List.{list_any}
use Rattle.std.proofs.lemmas.Bool.{eqb-true, eqb-false, cond_both}
use Rattle.line_model.specs.declared.key.Key.{Key}
use Rattle.line_model.specs.Keys.{is_same_key}
use Rattle.round_model.specs.Idle.{most_keys, without_oldest, with_key}
use Rattle.line_model.proofs.KeyLemmas.{is_same_key-refl, is_same_key-true}

-- whether a key is one of some
abbrev pub is_among : Key → List Key → Bool
is_among key keys = list_any (is_same_key key) keys

-- a key in use is not the one that goes
among_without : (in_use : Key → Bool) (key : Key) (keys : List Key) → in_use key ≡ true → is_among key keys ≡ true → is_among key (without_oldest in_use keys) ≡ true
among_without in_use key [] used e = e
among_without in_use key (other ∷ keys) used e = of_tests (in_use other) (is_same_key key other) refl refl e (among_without in_use key keys used) where
  of_tests : (b same : Bool) → in_use other ≡ b → is_same_key key other ≡ same → (is_same_key key other || is_among key keys) ≡ true
      → (is_among key keys ≡ true → is_among key (without_oldest in_use keys) ≡ true) → is_among key (if b then other ∷ without_oldest in_use keys else keys) ≡ true
  of_tests true true is same e more = ap (λ (b : Bool). b || is_among key (without_oldest in_use keys)) same
  of_tests true false is same e more =
      ap (λ (b : Bool). b || is_among key (without_oldest in_use keys)) same ∙ more (sym (ap (λ (b : Bool). b || is_among key keys) same) ∙ e)
  of_tests false true is same e more = absurd (let clash : false ≡ true = sym is ∙ ap in_use (sym (is_same_key-true key other same)) ∙ used in cc)
  of_tests false false is same e more = sym (ap (λ (b : Bool). b || is_among key keys) same) ∙ e

either_true : (one other : Bool) → one ≡ true → (one || other) ≡ true
either_true true other e = refl
either_true false other e = absurd (let clash : false ≡ true = e in cc)

other_true : (one other : Bool) → other ≡ true → (one || other) ≡ true
other_true true other e = refl
other_true false other e = e

pub among_last : (key : Key) (keys : List Key) → is_among key (keys ++ key ∷ []) ≡ true
among_last key [] = either_true (is_same_key key key) false (is_same_key-refl key)
among_last key (other ∷ keys) = other_true (is_same_key key other) (is_among key (keys ++ key ∷ [])) (among_last key keys)

pub among_first : (key new : Key) (keys : List Key) → is_among key keys ≡ true → is_among key (keys ++ new ∷ []) ≡ true
among_first key new [] e = absurd (let clash : false ≡ true = e in cc)
among_first key new (other ∷ keys) e = of_test (is_same_key key other) e (among_first key new keys) where
  of_test : (same : Bool) → (same || is_among key keys) ≡ true → (is_among key keys ≡ true → is_among key (keys ++ new ∷ []) ≡ true) → (same || is_among key (keys ++ new ∷ [])) ≡ true
  of_test true e more = refl
  of_test false e more = more e

-- a key in use that is one of the old ones or the new one is kept
pub among_with_key : (in_use : Key → Bool) (key new : Key) (keys : List Key) → in_use key ≡ true → is_among key (keys ++ new ∷ []) ≡ true → is_among key (with_key in_use keys new) ≡ true
among_with_key in_use key new keys used e =
    cond_both (length keys == most_keys) (without_oldest in_use (keys ++ new ∷ [])) (keys ++ new ∷ []) (λ (kept : List Key). is_among key kept ≡ true)
    (λ b. among_without in_use key (keys ++ new ∷ []) used e) (λ b. e)

-- where the new key is not in use, one goes
one_goes : (in_use : Key → Bool) (new : Key) (keys : List Key) → in_use new ≡ false → length (without_oldest in_use (keys ++ new ∷ [])) ≤ length keys
one_goes in_use new [] none = ap_length (in_use new) none where
  ap_length : (b : Bool) → b ≡ false → length (if b then new ∷ [] else []) ≤ 0
  ap_length true e = absurd (let clash : true ≡ false = e in cc)
  ap_length false e = omega arith
one_goes in_use new (other ∷ keys) none = of_test (in_use other) (one_goes in_use new keys none) where
  of_test : (b : Bool) → length (without_oldest in_use (keys ++ new ∷ [])) ≤ length keys → length (if b then other ∷ without_oldest in_use (keys ++ new ∷ []) else keys ++ new ∷ []) ≤ length (other ∷ keys)
  of_test true less = omega (arith, less)
  of_test false less = omega (arith, length-append keys (new ∷ []))

first_goes : (in_use : Key → Bool) (new other : Key) (keys : List Key) → in_use other ≡ false → length (without_oldest in_use ((other ∷ keys) ++ new ∷ [])) ≤ length (other ∷ keys)
first_goes in_use new other keys none = of_test (in_use other) none where
  of_test : (b : Bool) → b ≡ false → length (if b then other ∷ without_oldest in_use (keys ++ new ∷ []) else keys ++ new ∷ []) ≤ length (other ∷ keys)
  of_test true e = absurd (let clash : true ≡ false = e in cc)
  of_test false e = omega (arith, length-append keys (new ∷ []))

-- where all keys in use are one, and the new key is new, one goes
all_but_one : (in_use : Key → Bool) → ((one other : Key) → in_use one ≡ true → in_use other ≡ true → one ≡ other) → (new : Key) (keys : List Key) → is_among new keys ≡ false → keys ≢ []
    → length (without_oldest in_use (keys ++ new ∷ [])) ≤ length keys
all_but_one in_use single new [] fresh some = absurd (some refl)
all_but_one in_use single new (other ∷ keys) fresh some = of_tests (in_use new) (in_use other) refl refl where
  of_tests : (b first : Bool) → in_use new ≡ b → in_use other ≡ first → length (without_oldest in_use ((other ∷ keys) ++ new ∷ [])) ≤ length (other ∷ keys)
  of_tests false first e f = one_goes in_use new (other ∷ keys) e
  of_tests true false e f = first_goes in_use new other keys f
  of_tests true true e f =
      let same : is_same_key new other ≡ true = subst (λ (key : Key). is_same_key new key ≡ true) (single new other e f) (is_same_key-refl new) in
      absurd (let clash : true ≡ false = sym (either_true (is_same_key new other) (is_among new keys) same) ∙ fresh in cc)

full_some : (keys : List Key) → length keys ≡ most_keys → keys ≢ []
full_some [] full e = absurd (omega (arith, full))
full_some (key ∷ keys) full e = absurd (cc)

pub few_with_key : (in_use : Key → Bool) → ((one other : Key) → in_use one ≡ true → in_use other ≡ true → one ≡ other) → (new : Key) (keys : List Key) → is_among new keys ≡ false
    → length keys ≤ most_keys → length (with_key in_use keys new) ≤ most_keys
few_with_key in_use single new keys fresh few =
    cond_both (length keys == most_keys) (without_oldest in_use (keys ++ new ∷ [])) (keys ++ new ∷ []) (λ (kept : List Key). length kept ≤ most_keys)
    (λ b. omega (arith, few, all_but_one in_use single new keys fresh (full_some keys (eqb-true (length keys) most_keys b))))
    (λ b. let apart : length keys ≢ most_keys = eqb-false (length keys) most_keys b in omega (arith, few, apart, length-append keys (new ∷ [])))
