-- The least of some offences.
use Rattle.std.proofs.Common.{◌≡◌, ℕ, suc, ◌+◌, ◌<◌, ◌≤◌, Bool, true, false, cond, List, [], ◌∷◌, ◌++◌, length, take, get_or, refl, sym, ap, ◌∙◌, append_assoc, arith, Some, None}
use Rattle.std.specs.Prelude.{nat_lt, AllPairs, slice_get, option_to_list}
use Rattle.std.proofs.lemmas.List.{map-append, take_more}
use Rattle.std.proofs.lemmas.List.Elements.{recursion_from_All}
use Rattle.std.proofs.lemmas.Bool.{le-ltb, ltb-false}
use Rattle.std.specs.List.{AllByRecursion as Each}
use Rattle.load_model.specs.declared.offence.TreeOffence.{TreeOffence}
use Rattle.load_model.specs.declared.offence.TreeOffenceKind.{TreeOffenceKind}
use Rattle.load_model.specs.Offences.{least, least_of, offences_at}

-- the first of two
abbrev pub earlier : TreeOffence → TreeOffence → TreeOffence
earlier first other = cond (nat_lt other.place first.place) other first

-- one offence behind others
least_of_more : (first : TreeOffence) (others : List TreeOffence) (other : TreeOffence) → least_of first (others ++ other ∷ []) ≡ earlier (least_of first others) other
least_of_more first [] other = refl
least_of_more first (one ∷ others) other = by_test (nat_lt one.place first.place) (least_of_more one others other) (least_of_more first others other) where
  by_test : (b : Bool) → least_of one (others ++ other ∷ []) ≡ earlier (least_of one others) other → least_of first (others ++ other ∷ []) ≡ earlier (least_of first others) other
      → cond b (least_of one (others ++ other ∷ [])) (least_of first (others ++ other ∷ [])) ≡ earlier (cond b (least_of one others) (least_of first others)) other
  by_test true e f = e
  by_test false e f = f

pub least_none : (before : List TreeOffence) (other : TreeOffence) → None ≡ least before → Some other ≡ least (before ++ other ∷ [])
least_none [] other e = refl
least_none (one ∷ before) other e = cc

pub least_some : (first : TreeOffence) (before : List TreeOffence) (other : TreeOffence) → Some first ≡ least before → Some (earlier first other) ≡ least (before ++ other ∷ [])
least_some first [] other e = cc
least_some first (one ∷ before) other e =
    let is : first ≡ least_of one before = cc in
    ap (λ (f : TreeOffence). Some (earlier f other)) is ∙ ap (λ (f : TreeOffence). Some f) (sym (least_of_more one before other))

-- an offence of a kind at a place
abbrev pub at_place : TreeOffenceKind → ℕ → TreeOffence
at_place kind place = record { kind = kind; place = place }

-- one place more
pub one_more : (kind : TreeOffenceKind) (before : List TreeOffence) (places : List ℕ) (i : ℕ) (place : ℕ) → i < length places → place ≡ get_or places i place
    → (before ++ offences_at kind (take i places)) ++ at_place kind place ∷ [] ≡ before ++ offences_at kind (take (i + 1) places)
one_more kind before places i place h is =
    append_assoc before (offences_at kind (take i places)) (at_place kind place ∷ [])
    ∙ ap (λ (offences : List TreeOffence). before ++ offences)
    (ap (λ (p : ℕ). offences_at kind (take i places) ++ at_place kind p ∷ []) is
    ∙ sym (map-append (at_place kind) (take i places) (get_or places i place ∷ []))
    ∙ ap (offences_at kind) (sym (take_more places i place h)))

-- the first of several lists
least_of_parts : (first : TreeOffence) (some more : List TreeOffence) → least_of first (some ++ more) ≡ least_of (least_of first some) more
least_of_parts first [] more = refl
least_of_parts first (one ∷ some) more = by_test (nat_lt one.place first.place) (least_of_parts one some more) (least_of_parts first some more) where
  by_test : (b : Bool) → least_of one (some ++ more) ≡ least_of (least_of one some) more → least_of first (some ++ more) ≡ least_of (least_of first some) more
      → cond b (least_of one (some ++ more)) (least_of first (some ++ more)) ≡ least_of (cond b (least_of one some) (least_of first some)) more
  by_test true e f = e
  by_test false e f = f

-- offences at no lesser place don't count
stays : (kind : TreeOffenceKind) (first : TreeOffence) (places : List ℕ) → Each (λ place. first.place ≤ place) places → least_of first (offences_at kind places) ≡ first
stays kind first [] h = refl
stays kind first (place ∷ places) h =
    ap (λ b. cond b (least_of (at_place kind place) (offences_at kind places)) (least_of first (offences_at kind places))) (le-ltb place first.place h.0) ∙ stays kind first places h.1

no_further : (kind : TreeOffenceKind) (first : TreeOffence) (place : ℕ) (places : List ℕ) → Each (λ other. place ≤ other) places
    → least_of first (offences_at kind (place ∷ places)) ≡ least_of first (at_place kind place ∷ [])
no_further kind first place places h = by_test (nat_lt place first.place) refl where
  lower : first.place ≤ place → (others : List ℕ) → Each (λ other. place ≤ other) others → Each (λ other. first.place ≤ other) others
  lower l [] e = tt
  lower l (other ∷ others) e = let here = e.0 in (omega (arith, l, here), lower l others e.1)

  by_test : (b : Bool) → nat_lt place first.place ≡ b
      → cond b (least_of (at_place kind place) (offences_at kind places)) (least_of first (offences_at kind places)) ≡ cond b (at_place kind place) first
  by_test true e = stays kind (at_place kind place) places h
  by_test false e = stays kind first places (lower (ltb-false place first.place e) places h)

skipped : (kind : TreeOffenceKind) (before : List TreeOffence) (place : ℕ) (places : List ℕ) → Each (λ other. place ≤ other) places
    → least (before ++ offences_at kind (place ∷ places)) ≡ least (before ++ at_place kind place ∷ [])
skipped kind [] place places h = ap (λ (o : TreeOffence). Some o) (stays kind (at_place kind place) places h)
skipped kind (one ∷ before) place places h =
    ap (λ (o : TreeOffence). Some o) (least_of_parts one before (offences_at kind (place ∷ places)) ∙ no_further kind (least_of one before) place places h
    ∙ sym (least_of_parts one before (at_place kind place ∷ [])))

-- of offences whose places rise the first one alone counts
pub rising : (kind : TreeOffenceKind) (before : List TreeOffence) (places : List ℕ) → AllPairs (λ place other. place ≤ other) places
    → least (before ++ offences_at kind places) ≡ least (before ++ offences_at kind (option_to_list (slice_get places 0)))
rising kind before [] rise = refl
rising kind before (place ∷ places) rise =
    skipped kind before place places (recursion_from_All (λ other. place ≤ other) places (λ k d l. let within : suc k < length (place ∷ places) = omega arith in let front : 0 < suc k = omega arith in rise 0 (suc k) d front within))
