-- Two lists of places, of which the first rises.
use Rattle.std.proofs.Common.{◌≡◌, ℕ, zero, suc, ◌+◌, ◌<◌, ◌≤◌, ◌∙◌, not, Bool, true, false, cond, List, [], ◌∷◌, ◌++◌, length, take, drop, get_or, refl, sym, ap, ap₂, subst, arith}
use Rattle.std.specs.Prelude.{nat_lt, slice_get, option_to_list}
use Rattle.std.specs.List.{filter, AllByRecursion as Each}
use Rattle.std.proofs.lemmas.Bool.{le-ltb, ltb-false}
use Rattle.std.proofs.lemmas.List.{append_assoc, drop_more}
use Rattle.load_model.specs.Offences.{merged}
use Rattle.declared_names.specs.Merge.{IsRising, below}

-- the places before one are those at the front
all_behind : (place : ℕ) (places : List ℕ) → Each (λ other. place ≤ other) places → filter (λ other. nat_lt other place) places ≡ []
all_behind place [] h = refl
all_behind place (other ∷ places) h = ap (λ b. cond b (other ∷ filter (λ other. nat_lt other place) places) (filter (λ other. nat_lt other place) places)) (le-ltb other place h.0) ∙ all_behind place places h.1

all_kept : (place : ℕ) (places : List ℕ) → Each (λ other. place ≤ other) places → filter (λ other. not (nat_lt other place)) places ≡ places
all_kept place [] h = refl
all_kept place (other ∷ places) h =
    ap (λ b. cond (not b) (other ∷ filter (λ other. not (nat_lt other place)) places) (filter (λ other. not (nat_lt other place)) places)) (le-ltb other place h.0)
    ∙ ap (λ (some : List ℕ). other ∷ some) (all_kept place places h.1)

lower : (place first : ℕ) (places : List ℕ) → place ≤ first → Each (λ other. first ≤ other) places → Each (λ other. place ≤ other) places
lower place first [] l h = tt
lower place first (other ∷ places) l h = let here = h.0 in (omega (arith, l, here), lower place first places l h.1)

cut : (place : ℕ) (places : List ℕ) → IsRising places
    → (filter (λ other. nat_lt other place) places ≡ take (below place places) places) × (filter (λ other. not (nat_lt other place)) places ≡ drop (below place places) places) × IsRising (drop (below place places) places)
cut place [] rises = (refl, refl, tt)
cut place (first ∷ places) rises = by_test (nat_lt first place) refl (cut place places rises.1) where
  by_test : (b : Bool) → nat_lt first place ≡ b
      → (filter (λ other. nat_lt other place) places ≡ take (below place places) places) × (filter (λ other. not (nat_lt other place)) places ≡ drop (below place places) places) × IsRising (drop (below place places) places)
      → (cond b (first ∷ filter (λ other. nat_lt other place) places) (filter (λ other. nat_lt other place) places) ≡ take (cond b (1 + below place places) 0) (first ∷ places))
      × (cond (not b) (first ∷ filter (λ other. not (nat_lt other place)) places) (filter (λ other. not (nat_lt other place)) places) ≡ drop (cond b (1 + below place places) 0) (first ∷ places))
      × IsRising (drop (cond b (1 + below place places) 0) (first ∷ places))
  by_test true e rest =
      let one_more : suc (below place places) ≡ 1 + below place places = omega arith in (
        ap (λ (some : List ℕ). first ∷ some) rest.0 ∙ ap (λ (n : ℕ). take n (first ∷ places)) one_more,
        rest.1 ∙ ap (λ (n : ℕ). drop n (first ∷ places)) one_more,
        subst (λ (n : ℕ). IsRising (drop n (first ∷ places))) one_more rest.2,
      )
  by_test false e rest =
      let h = lower place first places (ltb-false first place e) rises.0 in
      (all_behind place places h, ap (λ (some : List ℕ). first ∷ some) (all_kept place places h), rises)

-- how far two lists are merged
pub record Goes (one other old new left : List ℕ) (at : ℕ) : Type 0 where
  pub rises : IsRising left
  pub goes : new ++ merged left (drop at other) ≡ old ++ merged one other

pub goes_none : (one other old : List ℕ) → IsRising one → Goes one other old old one 0
goes_none one other old rises = record { rises = rises; goes = refl }

pub goes_more : (one other old new left more later : List ℕ) (at place : ℕ) → Goes one other old new left at → at < length other → place ≡ get_or other at place
    → more ≡ new ++ take (below place left) left → later ≡ more ++ place ∷ [] → Goes one other old later (drop (below place left) left) (at + 1)
goes_more one other old new left more later at place goes l is first pushed =
    let parts = cut place left goes.rises in
    let rest = drop (at + 1) other in
    let next : drop at other ≡ place ∷ rest = drop_more other at place l ∙ ap (λ (p : ℕ). p ∷ rest) (sym is) in
    record {
      rises = parts.2;
      goes = ap (λ (some : List ℕ). some ++ merged (drop (below place left) left) rest) (pushed ∙ ap (λ (some : List ℕ). some ++ place ∷ []) first)
          ∙ append_assoc (new ++ take (below place left) left) (place ∷ []) (merged (drop (below place left) left) rest)
          ∙ append_assoc new (take (below place left) left) (place ∷ merged (drop (below place left) left) rest)
          ∙ ap₂ (λ (front back : List ℕ). new ++ (front ++ place ∷ merged back rest)) (sym parts.0) (sym parts.1)
          ∙ ap (λ (some : List ℕ). new ++ merged left some) (sym next)
          ∙ goes.goes;
    }

pub goes_all : (one other old new left later : List ℕ) (at : ℕ) → Goes one other old new left at → drop at other ≡ [] → later ≡ new ++ left → later ≡ old ++ merged one other
goes_all one other old new left later at goes none pushed = pushed ∙ ap (λ (some : List ℕ). new ++ merged left some) (sym none) ∙ goes.goes

pub beyond_at : (count : ℕ) (xs : List ℕ) → option_to_list (slice_get xs count) ≡ take 1 (drop count xs)
beyond_at zero [] = refl
beyond_at (suc count) [] = refl
beyond_at zero (x ∷ xs) = refl
beyond_at (suc count) (x ∷ xs) = beyond_at count xs
