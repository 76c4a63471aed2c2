-- What stays kept when lines enter.
use Rattle.std.proofs.Common.{◌≡◌, ◌≢◌, ℕ, ◌+◌, ◌≤◌, ◌<◌, ◌⊎◌, Bool, true, false, List, [], ◌∷◌, ◌++◌, length, set, refl, ap, sym, ◌∙◌, subst, arith, zero, suc, Some, inl, inr}
use Rattle.std.specs.Prelude.{map, slice_get, ◌==◌, ◌||◌, ◌&&◌, if◌then◌else◌}
use Rattle.std.specs.List.{AllByRecursion as Each, list_any, list_all}
use Rattle.std.proofs.lemmas.Bool.{eq-eqb}
use Rattle.std.proofs.lemmas.Bool.Decides.{eqb_tells}
use Rattle.std.proofs.lemmas.List.{length-append}
use Rattle.doc_model.specs.Reading.{upwards}
use Rattle.line_model.specs.declared.key.Key.{Key}
use Rattle.line_model.specs.Keys.{is_same_key}
use Rattle.round_model.specs.Idle.{Live, with_key, without_oldest, with_live, most_keys}
use Rattle.line_model.proofs.KeyLemmas.{is_same_key-true, is_same_key-refl}

neq-eqb : (a b : ℕ) → (a ≡ b → ⊥) → (a == b) ≡ false
neq-eqb a b apart = elim (eqb_tells a b) [ inl e ↦ absurd (apart e.1) | inr e ↦ e.0 ]

true_or : (b c : Bool) → b ≡ true → (b || c) ≡ true
true_or b c e = ap (λ (x : Bool). x || c) e

or_true : (b c : Bool) → c ≡ true → (b || c) ≡ true
or_true true c e = refl
or_true false c e = e

pub never : (b : Bool) → b ≡ true → b ≡ false → ⊥
never b e f = cc

-- one key that isn't in use goes, if there is one
length-without : (f : Key → Bool) (keys : List Key) → list_all f keys ≡ false → length (without_oldest f keys) + 1 ≡ length keys
length-without f [] e = absurd (cc)
length-without f (key ∷ keys) e = by (length-without f keys) (f key) refl where
  by : (list_all f keys ≡ false → length (without_oldest f keys) + 1 ≡ length keys) → (b : Bool) → f key ≡ b → length (without_oldest f (key ∷ keys)) + 1 ≡ length (key ∷ keys)
  by rest_is true h =
      let rest : list_all f keys ≡ false = ap (λ (b : Bool). b && list_all f keys) (sym h) ∙ e in
      omega (arith, ap (λ (b : Bool). length (if b then key ∷ without_oldest f keys else keys)) h, rest_is rest)
  by rest_is false h = omega (arith, ap (λ (b : Bool). length (if b then key ∷ without_oldest f keys else keys)) h)

all_push : (f : Key → Bool) (keys : List Key) (key : Key) → f key ≡ false → list_all f (keys ++ key ∷ []) ≡ false
all_push f [] key h = ap (λ (b : Bool). b && true) h
all_push f (first ∷ keys) key h = ap (λ (b : Bool). f first && b) (all_push f keys key h) ∙ and_false (f first) where
  and_false : (b : Bool) → (b && false) ≡ false
  and_false true = refl
  and_false false = refl

-- where all keys in use are one, at most ten stay
pub few_with : (f : Key → Bool) (keys : List Key) (key : Key) → length keys ≤ most_keys → ((other : Key) → f other ≡ true → f key ≡ true → key ≡ other)
    → list_any (is_same_key key) keys ≡ false → length (with_key f keys key) ≤ most_keys
few_with f keys key few one none = by_full (eqb_tells (length keys) most_keys) where
  some_unused : (keys : List Key) → length keys ≡ most_keys → list_any (is_same_key key) keys ≡ false → (b : Bool) → f key ≡ b → list_all f (keys ++ key ∷ []) ≡ false
  some_unused [] full none b e = absurd (omega arith)
  some_unused (first ∷ keys) full none false e = all_push f (first ∷ keys) key e
  some_unused (first ∷ keys) full none true e = by_first (f first) refl where
    by_first : (b : Bool) → f first ≡ b → list_all f ((first ∷ keys) ++ key ∷ []) ≡ false
    by_first false h = ap (λ (b : Bool). b && list_all f (keys ++ key ∷ [])) h
    by_first true h =
        let same : key ≡ first = one first h e in
        let is : is_same_key key first ≡ true = ap (λ (k : Key). is_same_key key k) (sym same) ∙ is_same_key-refl key in
        absurd (never (list_any (is_same_key key) (first ∷ keys)) (true_or (is_same_key key first) (list_any (is_same_key key) keys) is) none)

  by_full : ((length keys == most_keys) ≡ true) × (length keys ≡ most_keys) ⊎ ((length keys == most_keys) ≡ false) × (length keys ≢ most_keys) → length (with_key f keys key) ≤ most_keys
  by_full (inl e) =
      omega (
        arith,
        ap (λ (b : Bool). length (if b then without_oldest f (keys ++ key ∷ []) else keys ++ key ∷ [])) e.0,
        length-without f (keys ++ key ∷ []) (some_unused keys e.1 none (f key) refl),
        length-append keys (key ∷ []),
        e.1,
      )
  by_full (inr e) =
      omega (arith, ap (λ (b : Bool). length (if b then without_oldest f (keys ++ key ∷ []) else keys ++ key ∷ [])) e.0, length-append keys (key ∷ []), few, e.1)

-- a key in use stays
kept_without : (f : Key → Bool) (keys : List Key) (key : Key) → f key ≡ true → list_any (is_same_key key) keys ≡ true → list_any (is_same_key key) (without_oldest f keys) ≡ true
kept_without f [] key used kept = kept
kept_without f (first ∷ keys) key used kept = by_same (kept_without f keys key used) (is_same_key key first) refl (f first) refl where
  by_same : (list_any (is_same_key key) keys ≡ true → list_any (is_same_key key) (without_oldest f keys) ≡ true) → (b : Bool) → is_same_key key first ≡ b → (used' : Bool) → f first ≡ used' → list_any (is_same_key key) (without_oldest f (first ∷ keys)) ≡ true
  by_same rest_is true is true h =
      ap (λ (b : Bool). list_any (is_same_key key) (if b then first ∷ without_oldest f keys else keys)) h
      ∙ true_or (is_same_key key first) (list_any (is_same_key key) (without_oldest f keys)) is
  by_same rest_is true is false h = absurd (never (f first) (ap f (sym (is_same_key-true key first is)) ∙ used) h)
  by_same rest_is false is true h =
      let rest : list_any (is_same_key key) keys ≡ true = ap (λ (b : Bool). b || list_any (is_same_key key) keys) (sym is) ∙ kept in
      ap (λ (b : Bool). list_any (is_same_key key) (if b then first ∷ without_oldest f keys else keys)) h
      ∙ or_true (is_same_key key first) (list_any (is_same_key key) (without_oldest f keys)) (rest_is rest)
  by_same rest_is false is false h =
      let rest : list_any (is_same_key key) keys ≡ true = ap (λ (b : Bool). b || list_any (is_same_key key) keys) (sym is) ∙ kept in
      ap (λ (b : Bool). list_any (is_same_key key) (if b then first ∷ without_oldest f keys else keys)) h ∙ rest

pub kept_with : (f : Key → Bool) (keys : List Key) (new key : Key) → f key ≡ true → list_any (is_same_key key) (keys ++ new ∷ []) ≡ true → list_any (is_same_key key) (with_key f keys new) ≡ true
kept_with f keys new key used kept = by_full (length keys == most_keys) where
  by_full : (b : Bool) → list_any (is_same_key key) (if b then without_oldest f (keys ++ new ∷ []) else keys ++ new ∷ []) ≡ true
  by_full true = kept_without f (keys ++ new ∷ []) key used kept
  by_full false = kept

-- the keys with a further one
pub any_front : (f : Key → Bool) (keys : List Key) (new : Key) → list_any f keys ≡ true → list_any f (keys ++ new ∷ []) ≡ true
any_front f [] new e = absurd (cc)
any_front f (first ∷ keys) new e = by (any_front f keys new) (f first) refl where
  by : (list_any f keys ≡ true → list_any f (keys ++ new ∷ []) ≡ true) → (b : Bool) → f first ≡ b → (f first || list_any f (keys ++ new ∷ [])) ≡ true
  by rest_is true h = true_or (f first) (list_any f (keys ++ new ∷ [])) h
  by rest_is false h = or_true (f first) (list_any f (keys ++ new ∷ [])) (rest_is (ap (λ (b : Bool). b || list_any f keys) (sym h) ∙ e))

pub any_last : (f : Key → Bool) (keys : List Key) (new : Key) → f new ≡ true → list_any f (keys ++ new ∷ []) ≡ true
any_last f [] new e = true_or (f new) false e
any_last f (first ∷ keys) new e = or_true (f first) (list_any f (keys ++ new ∷ [])) (any_last f keys new e)

-- the same test keeps the same keys
pub with_key-same : (f g : Key → Bool) (keys : List Key) (key : Key) → ((k : Key) → f k ≡ g k) → with_key f keys key ≡ with_key g keys key
with_key-same f g keys key same = ap (λ (ks : List Key). if length keys == most_keys then ks else keys ++ key ∷ []) (oldest (keys ++ key ∷ [])) where
  oldest : (ks : List Key) → without_oldest f ks ≡ without_oldest g ks
  oldest [] = refl
  oldest (k ∷ ks) =
      ap (λ (b : Bool). if b then k ∷ without_oldest f ks else ks) (same k) ∙ ap (λ (rest : List Key). if g k then k ∷ rest else ks) (oldest ks)

-- a change of the live paragraph of a number is one at its place
with_live-below : (number first count : ℕ) (change : Live → Live) (live : List Live) → map (λ l. l.par) live ≡ upwards first count → number < first → with_live number change live ≡ live
with_live-below number first count change [] e below = refl
with_live-below number first zero change (l ∷ live) e below = absurd (cc)
with_live-below number first (suc count) change (l ∷ live) e below =
    let here : l.par ≡ first = cc e in
    let behind : map (λ l. l.par) live ≡ upwards (first + 1) count = cc e in
    ap (λ (b : Bool). (if b then change l else l) ∷ with_live number change live) (neq-eqb l.par number (λ same. absurd (omega (arith, here, same))))
    ∙ ap (λ (ls : List Live). l ∷ ls) (with_live-below number (first + 1) count change live behind (omega arith))

pub with_live-set : (number first place count : ℕ) (change : Live → Live) (live : List Live) (at : Live) → map (λ l. l.par) live ≡ upwards first count → number ≡ first + place
    → slice_get live place ≡ Some at → with_live number change live ≡ set live place (change at)
with_live-set number first place count change [] at e is found = absurd (cc)
with_live-set number first place zero change (l ∷ live) at e is found = absurd (cc)
with_live-set number first zero (suc count) change (l ∷ live) at e is found =
    let here : l.par ≡ first = cc e in
    let behind : map (λ l. l.par) live ≡ upwards (first + 1) count = cc e in
    let same : l ≡ at = cc found in
    ap (λ (b : Bool). (if b then change l else l) ∷ with_live number change live) (eq-eqb l.par number (omega arith))
    ∙ ap (λ (ls : List Live). change l ∷ ls) (with_live-below number (first + 1) count change live behind (omega arith))
    ∙ ap (λ (x : Live). change x ∷ live) same
with_live-set number first (suc place) (suc count) change (l ∷ live) at e is found =
    let here : l.par ≡ first = cc e in
    let behind : map (λ l. l.par) live ≡ upwards (first + 1) count = cc e in
    ap (λ (b : Bool). (if b then change l else l) ∷ with_live number change live) (neq-eqb l.par number (λ same. absurd (omega (arith, here, same))))
    ∙ ap (λ (ls : List Live). l ∷ ls) (with_live-set number (first + 1) place count change live at behind (omega arith) found)

pub map-set : {X Y : Type 0} (f : X → Y) (xs : List X) (place : ℕ) (x y : X) → slice_get xs place ≡ Some x → f y ≡ f x → map f (set xs place y) ≡ map f xs
map-set f [] place x y at e = refl
map-set {Y = Y} f (first ∷ xs) zero x y at e =
    let same : first ≡ x = cc at in
    ap (λ (v : Y). v ∷ map f xs) (e ∙ ap f (sym same))
map-set {Y = Y} f (first ∷ xs) (suc place) x y at e = ap (λ (ys : List Y). f first ∷ ys) (map-set f xs place x y at e)

pub Each-set : {X : Type 0} (P : X → Type 0) (xs : List X) (place : ℕ) (y : X) → Each P xs → P y → Each P (set xs place y)
Each-set P [] place y each h = tt
Each-set P (x ∷ xs) zero y each h = (h, each.1)
Each-set P (x ∷ xs) (suc place) y each h = (each.0, Each-set P xs place y each.1 h)

pub Each-at : {X : Type 0} (P : X → Type 0) (xs : List X) (place : ℕ) (x : X) → Each P xs → slice_get xs place ≡ Some x → P x
Each-at P [] place x each at = absurd (cc)
Each-at P (y ∷ xs) zero x each at = let same : y ≡ x = cc at in subst P same each.0
Each-at P (y ∷ xs) (suc place) x each at = Each-at P xs place x each.1 at

pub slice_get-set_same : {X : Type 0} (xs : List X) (place : ℕ) (y : X) → place < length xs → slice_get (set xs place y) place ≡ Some y
slice_get-set_same [] place y within = absurd (omega arith)
slice_get-set_same (x ∷ xs) zero y within = refl
slice_get-set_same (x ∷ xs) (suc place) y within = slice_get-set_same xs place y (omega arith)

pub slice_get-set_other : {X : Type 0} (xs : List X) (place other : ℕ) (y : X) → other ≢ place → slice_get (set xs place y) other ≡ slice_get xs other
slice_get-set_other [] place other y apart = refl
slice_get-set_other (x ∷ xs) zero zero y apart = absurd (apart refl)
slice_get-set_other (x ∷ xs) zero (suc other) y apart = refl
slice_get-set_other (x ∷ xs) (suc place) zero y apart = refl
slice_get-set_other (x ∷ xs) (suc place) (suc other) y apart = slice_get-set_other xs place other y (λ e. apart (ap suc e))
