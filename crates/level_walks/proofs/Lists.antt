-- Parts of lists, and tests in them.
use Rattle.std.proofs.Common.{◌≡◌, ℕ, ◌+◌, ◌-◌, ◌≤◌, ◌<◌, Bool, true, false, ◌||◌, List, [], ◌∷◌, ◌++◌, length, take, drop, zero, suc, Some, refl, ap, ap₂, sym, ◌∙◌, subst, add-one, arith}
use Rattle.std.proofs.Math.Seq.{drop-cons}
use Rattle.std.proofs.lemmas.List.{take-append-drop, append_cancel_left, drop-drop}
use Rattle.std.proofs.lemmas.List.Edits.{split_between}
use Rattle.std.proofs.lemmas.Option.{slice_get_within, get_or_from_slice_get}
use Rattle.std.specs.List.{between, list_any, slice_get}

-- what stands at a place, and what is behind it
pub from_place : {X : Type 0} (xs : List X) (at : ℕ) (x : X) → slice_get xs at ≡ Some x → drop at xs ≡ x ∷ drop (at + 1) xs
from_place xs at x e =
    drop-cons xs at x (slice_get_within xs at x e)
    ∙ ap₂ (λ first (n : ℕ). first ∷ drop n xs) (get_or_from_slice_get xs at x x e) (sym (add-one at))

pub past_end : {X : Type 0} (xs : List X) (at : ℕ) → length xs ≤ at → drop at xs ≡ []
past_end [] zero h = refl
past_end [] (suc at) h = refl
past_end (x ∷ xs) zero h = absurd (omega (arith, h))
past_end (x ∷ xs) (suc at) h = past_end xs at (omega (arith, h))

-- what is from one place on is what is up to another, and then what is from that on
pub from_parts : {X : Type 0} (xs : List X) (from to : ℕ) → from ≤ to → drop from xs ≡ between from to xs ++ drop to xs
from_parts xs from to h = append_cancel_left (take from xs) (drop from xs) (between from to xs ++ drop to xs) (take-append-drop from xs ∙ split_between xs from to h)

none_front : (one other : Bool) → (one || other) ≡ false → one ≡ false
none_front true other none = none
none_front false other none = refl

none_back : (one other : Bool) → (one || other) ≡ false → other ≡ false
none_back true other none = absurd cc
none_back false other none = none

-- nothing passes in the parts of a list in which nothing does
pub none_first : {X : Type 0} (p : X → Bool) (x : X) (xs : List X) → list_any p (x ∷ xs) ≡ false → p x ≡ false
none_first p x xs none = none_front (p x) (list_any p xs) none

pub none_rest : {X : Type 0} (p : X → Bool) (x : X) (xs : List X) → list_any p (x ∷ xs) ≡ false → list_any p xs ≡ false
none_rest p x xs none = none_back (p x) (list_any p xs) none

pub none_dropped : {X : Type 0} (p : X → Bool) (n : ℕ) (xs : List X) → list_any p xs ≡ false → list_any p (drop n xs) ≡ false
none_dropped p zero xs none = none
none_dropped p (suc n) [] none = refl
none_dropped p (suc n) (x ∷ xs) none = none_dropped p n xs (none_rest p x xs none)

-- what is behind a place is behind each one before it
pub none_later : {X : Type 0} (p : X → Bool) (xs : List X) (one other : ℕ) → one ≤ other → list_any p (drop one xs) ≡ false → list_any p (drop other xs) ≡ false
none_later p xs one other h none =
    subst (λ (n : ℕ). list_any p (drop n xs) ≡ false) (let same : one + (other - one) ≡ other = omega (arith, h) in same)
    (subst (λ ys. list_any p ys ≡ false) (drop-drop (other - one) one xs) (none_dropped p (other - one) (drop one xs) none))

-- what is between two places
pub between_at : {X : Type 0} (xs : List X) (at to : ℕ) (x : X) → slice_get xs at ≡ Some x → at < to → between at to xs ≡ x ∷ between (at + 1) to xs
between_at xs at to x there before =
    let longer : to - at ≡ suc (to - (at + 1)) = omega (arith, before) in
    ap (take (to - at)) (from_place xs at x there) ∙ ap (λ (n : ℕ). take n (x ∷ drop (at + 1) xs)) longer

pub nothing_between : {X : Type 0} (xs : List X) (at to : ℕ) → to ≤ at → between at to xs ≡ []
nothing_between xs at to past = let none : to - at ≡ 0 = omega (arith, past) in ap (λ (n : ℕ). take n (drop at xs)) none
