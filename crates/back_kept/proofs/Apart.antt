-- Names that are apart: the first of each are all of them.
use Rattle.std.proofs.Common.{◌≡◌, ◌≢◌, ◌≤◌, ℕ, ◌==◌, ◌||◌, zero, suc, not, Bool, true, false, cond, List, [], ◌∷◌, ◌++◌, map, length, refl, sym, ap, ap₂, ◌∙◌, arith, bytes_eq, length-append}
use Rattle.std.specs.Prelude.{AllPairs, All}
use Rattle.std.specs.List.{flat_map, filter, AllByRecursion as Each}
use Rattle.std.proofs.lemmas.Bool.Decides.{Decides-eqb}
use Rattle.std.proofs.lemmas.Slice.Eq.{bytes_eq-Decides}
use Rattle.load_model.specs.Left.{firsts}
use Rattle.load_model.specs.Met.{is_at}

abbrev pub AreApart : List (List ℕ) → Type 0
AreApart [] = Unit {0}
AreApart (name ∷ names) = Each (λ other. bytes_eq name other ≡ false) names × AreApart names

-- tests of names
pub is_same : (one other : List ℕ) → bytes_eq one other ≡ true → one ≡ other
is_same one other e = (bytes_eq-Decides one other).0 e

pub same_is : (name : List ℕ) → bytes_eq name name ≡ true
same_is name = (bytes_eq-Decides name name).1 refl

pub differ : (one other : List ℕ) → (one ≡ other → ⊥) → bytes_eq one other ≡ false
differ one other apart = by_test (bytes_eq one other) refl where
  by_test : (b : Bool) → bytes_eq one other ≡ b → bytes_eq one other ≡ false
  by_test true e = absurd (apart (is_same one other e))
  by_test false e = e

pub turned : (one other : List ℕ) → bytes_eq one other ≡ bytes_eq other one
turned one other = by_test (bytes_eq other one) refl where
  by_test : (b : Bool) → bytes_eq other one ≡ b → bytes_eq one other ≡ bytes_eq other one
  by_test true e = ap (bytes_eq one) (is_same other one e) ∙ same_is one ∙ sym e
  by_test false e = differ one other (λ same. elsewhere (sym (ap (bytes_eq other) same ∙ same_is other) ∙ e)) ∙ sym e where
    elsewhere : true ≡ false → ⊥
    elsewhere e = cc

-- the first of each
pub filter_all : {X : Type 0} (test : X → Bool) (xs : List X) → Each (λ x. test x ≡ true) xs → filter test xs ≡ xs
filter_all test [] each = refl
filter_all test (x ∷ xs) each = ap (λ (b : Bool). cond b (x ∷ filter test xs) (filter test xs)) each.0 ∙ ap (λ more. x ∷ more) (filter_all test xs each.1)

others : {X : Type 0} (name : X → List ℕ) (one : List ℕ) (xs : List X) → Each (λ other. bytes_eq one other ≡ false) (map name xs) → Each (λ x. not (bytes_eq one (name x)) ≡ true) xs
others name one [] each = tt
others name one (x ∷ xs) each = (ap not each.0, others name one xs each.1)

pub firsts_all : {X : Type 0} (name : X → List ℕ) (xs : List X) → AreApart (map name xs) → firsts (λ one other. bytes_eq (name one) (name other)) xs ≡ xs
firsts_all name [] apart = refl
firsts_all name (x ∷ xs) apart =
    ap (λ more. x ∷ filter (λ other. not (bytes_eq (name x) (name other))) more) (firsts_all name xs apart.1)
    ∙ ap (λ more. x ∷ more) (filter_all (λ other. not (bytes_eq (name x) (name other))) xs (others name (name x) xs apart.0))

-- each of some things is at one of their places
pub or_true : (b : Bool) → (b || true) ≡ true
or_true true = refl
or_true false = refl

pub at_own : (place : ℕ) → (place == place) ≡ true
at_own place = (Decides-eqb place place).1 refl

each_among : {X : Type 0} (place : X → ℕ) (places : List ℕ) (xs : List X) → ((p : ℕ) → is_at (map place xs) p ≡ true → is_at places p ≡ true) → Each (λ x. is_at places (place x) ≡ true) xs
each_among place places [] among = tt
each_among place places (x ∷ xs) among =
    (among (place x) (ap (λ (b : Bool). b || is_at (map place xs) (place x)) (at_own (place x))), each_among place places xs (λ p e. among p (ap (λ (b : Bool). (place x == p) || b) e ∙ or_true (place x == p))))

pub each_at : {X : Type 0} (place : X → ℕ) (xs : List X) → Each (λ x. is_at (map place xs) (place x) ≡ true) xs
each_at place xs = each_among place (map place xs) xs (λ p e. e)

-- names of which each that isn't empty is given once
abbrev Pairs : List (List ℕ) → Type 0
Pairs [] = Unit {0}
Pairs (name ∷ names) = Each (λ other. name ≡ other → name ≡ []) names × Pairs names

each_of : {X : Type 0} (P : X → Type 0) (xs : List X) → All P xs → Each P xs
each_of P [] h = tt
each_of P (x ∷ xs) h = (h zero x (omega arith), each_of P xs (λ i d l. h (suc i) d (omega (arith, l))))

pub pairs_of : (names : List (List ℕ)) → AllPairs (λ left right. left ≡ right → left ≡ []) names → Pairs names
pairs_of [] h = tt
pairs_of (name ∷ names) h =
    (each_of (λ other. name ≡ other → name ≡ []) names (λ i d l. h zero (suc i) d (omega arith) (omega (arith, l))), pairs_of names (λ i j d lt l. h (suc i) (suc j) d (omega (arith, lt)) (omega (arith, l))))

-- a name where there is one
abbrev pub some : List ℕ → List (List ℕ)
some [] = []
some (c ∷ cs) = (c ∷ cs) ∷ []

no_end : (c : ℕ) (cs : List ℕ) → (c ∷ cs) ≡ [] → ⊥
no_end c cs e = cc

pub some_apart : (names : List (List ℕ)) → Pairs names → AreApart (flat_map some names)
some_apart [] pairs = tt
some_apart ([] ∷ names) pairs = some_apart names pairs.1
some_apart ((c ∷ cs) ∷ names) pairs = (each_differs names pairs.0, some_apart names pairs.1) where
  each_differs : (names : List (List ℕ)) → Each (λ other. (c ∷ cs) ≡ other → (c ∷ cs) ≡ []) names → Each (λ other. bytes_eq (c ∷ cs) other ≡ false) (flat_map some names)
  each_differs [] each = tt
  each_differs ([] ∷ names) each = each_differs names each.1
  each_differs ((d ∷ ds) ∷ names) each = (differ (c ∷ cs) (d ∷ ds) (λ same. no_end c cs (each.0 same)), each_differs names each.1)

pub some_all : (names : List (List ℕ)) → Each (λ name. name ≢ []) names → flat_map some names ≡ names
some_all [] each = refl
some_all ([] ∷ names) each = absurd (each.0 refl)
some_all ((c ∷ cs) ∷ names) each = ap (λ (more : List (List ℕ)). (c ∷ cs) ∷ more) (some_all names each.1)

-- how often a name is given
abbrev pub hit : List ℕ → List ℕ → List (List ℕ)
hit wanted name = cond (bytes_eq wanted name) (name ∷ []) []

pub once : (wanted : List ℕ) (names : List (List ℕ)) → (wanted ≡ [] → ⊥) → Pairs names → length (flat_map (hit wanted) names) ≤ 1
once wanted [] given pairs = omega arith
once wanted (name ∷ names) given pairs = by_test (bytes_eq wanted name) refl (once wanted names given pairs.1) where
  none_later : (later : List (List ℕ)) → wanted ≡ name → Each (λ other. name ≡ other → name ≡ []) later → flat_map (hit wanted) later ≡ []
  none_later [] same each = refl
  none_later (other ∷ later) same each =
      ap₂ (λ (b : Bool) (more : List (List ℕ)). cond b (other ∷ []) [] ++ more) (differ wanted other (λ e. given (same ∙ each.0 (sym same ∙ e)))) (none_later later same each.1)

  by_test : (b : Bool) → bytes_eq wanted name ≡ b → length (flat_map (hit wanted) names) ≤ 1 → length (flat_map (hit wanted) (name ∷ names)) ≤ 1
  by_test true e rest = rw e (rw (none_later names (is_same wanted name e) pairs.0) (omega arith))
  by_test false e rest = rw e rest

-- a name that isn't empty among those that there are
hit_some : (wanted : List ℕ) (names : List (List ℕ)) → (wanted ≡ [] → ⊥) → flat_map (hit wanted) (flat_map some names) ≡ flat_map (hit wanted) names
hit_some wanted [] given = refl
hit_some wanted ([] ∷ names) given = hit_some wanted names given ∙ sym (ap (λ (b : Bool). cond b ([] ∷ []) [] ++ flat_map (hit wanted) names) (differ wanted [] given))
hit_some wanted ((c ∷ cs) ∷ names) given = ap (λ (more : List (List ℕ)). hit wanted (c ∷ cs) ++ more) (hit_some wanted names given)

none_empty : (names : List (List ℕ)) → flat_map (hit []) (flat_map some names) ≡ []
none_empty [] = refl
none_empty ([] ∷ names) = none_empty names
none_empty ((c ∷ cs) ∷ names) = none_empty names

pub once_some : (wanted : List ℕ) (names : List (List ℕ)) → Pairs names → length (flat_map (hit wanted) (flat_map some names)) ≤ 1
once_some [] names pairs = rw (none_empty names) (omega arith)
once_some (c ∷ cs) names pairs = rw (hit_some (c ∷ cs) names (no_end c cs)) (once (c ∷ cs) names (no_end c cs) pairs)

pub none_hit : (wanted : List ℕ) (names : List (List ℕ)) → length (flat_map (hit wanted) names) ≡ 0 → Each (λ other. bytes_eq wanted other ≡ false) names
none_hit wanted [] e = tt
none_hit wanted (name ∷ names) e = by_test (bytes_eq wanted name) refl (none_hit wanted names) where
  by_test : (b : Bool) → bytes_eq wanted name ≡ b → (length (flat_map (hit wanted) names) ≡ 0 → Each (λ other. bytes_eq wanted other ≡ false) names) → Each (λ other. bytes_eq wanted other ≡ false) (name ∷ names)
  by_test true is rest = absurd (omega (arith, sym (ap (λ (b : Bool). length (cond b (name ∷ []) [] ++ flat_map (hit wanted) names)) is) ∙ e))
  by_test false is rest = (is, rest (sym (ap (λ (b : Bool). length (cond b (name ∷ []) [] ++ flat_map (hit wanted) names)) is) ∙ e))

pub once_apart : (names : List (List ℕ)) → ((wanted : List ℕ) → length (flat_map (hit wanted) names) ≤ 1) → AreApart names
once_apart [] few = tt
once_apart (name ∷ names) few =
    let own : length (name ∷ flat_map (hit name) names) ≤ 1 = rw (same_is name) at (few name) in
    (none_hit name names (omega (arith, own)), once_apart names (λ wanted. less wanted (few wanted))) where
      less : (wanted : List ℕ) → length (flat_map (hit wanted) (name ∷ names)) ≤ 1 → length (flat_map (hit wanted) names) ≤ 1
      less wanted h = omega (arith, h, length-append (hit wanted name) (flat_map (hit wanted) names))
