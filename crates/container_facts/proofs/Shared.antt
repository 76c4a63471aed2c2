-- Containers that paragraphs share.
use Rattle.std.proofs.Common.{◌≡◌, ◌≢◌, ℕ, ◌+◌, ◌≤◌, Bool, true, false, cond, eqb, ◌||◌, ◌&&◌, List, [], ◌∷◌, drop, zero, suc, Option, Some, None, refl, ap, ap₂, sym, ◌∙◌, subst, arith}
use Rattle.std.specs.Prelude.{find, unwrap_or}
use Rattle.std.specs.List.{list_any, position_or_len}
use Rattle.std.proofs.lemmas.Bool.{false≢true}
use Rattle.std.proofs.lemmas.Option.{none-some}
use Rattle.doc_model.specs.declared.document.Document.{Document}
use Rattle.doc_model.specs.declared.paragraph.Par.{Par}
use Rattle.doc_model.specs.declared.paragraph.ParId.{ParId}
use Rattle.doc_model.specs.Reading.{number_of, paragraphs}
use Rattle.container_rows.specs.Standing.{IsApart}
use Rattle.container_rows.proofs.Firsts.{by_test}
use Rattle.edit_rules.specs.Places.{Held, are_in_order, container_of, containers, from_first, held_between, held_from, holds, is_held, live_paragraph, through_first}
use Rattle.container_rows.proofs.Numbers.{tally}
use Rattle.container_facts.proofs.Counts.{held_once, held_times, held_is}
use Rattle.container_facts.proofs.Lists.{passing, some_pass, from_there, through_there, either_behind, from_both, through_both}

pub some_is : {X : Type 0} (x y : X) → Some x ≡ Some y → x ≡ y
some_is {X = X} x y e = ap (λ (o : Option X). unwrap_or o x) e

-- what is found first
pub found_now : {X : Type 0} (p : X → Bool) (x : X) (xs : List X) → p x ≡ true → find p (x ∷ xs) ≡ Some x
found_now p x xs is = ap (λ (b : Bool). cond b (Some x) (find p xs)) is

pub found_later : {X : Type 0} (p : X → Bool) (x : X) (xs : List X) → p x ≡ false → find p (x ∷ xs) ≡ find p xs
found_later p x xs other = ap (λ (b : Bool). cond b (Some x) (find p xs)) other

pub found_passes : {X : Type 0} (p : X → Bool) (xs : List X) (x : X) → find p xs ≡ Some x → p x ≡ true
found_passes p [] x found = absurd (none-some x found)
found_passes p (y ∷ ys) x found =
    by_test (p y)
    (λ here. subst (λ z. p z ≡ true) (some_is y x (sym (found_now p y ys here) ∙ found)) here)
    (λ other. found_passes p ys x (sym (found_later p y ys other) ∙ found))

module _ (a n : ℕ) where
  pub counts_found : (cs : List Held) (container : Held) → find (holds a) cs ≡ Some container → passing (is_held n) container ≤ held_times n cs
  counts_found [] container found = absurd (none-some container found)
  counts_found (c ∷ cs) container found =
      by_test (holds a c)
      (λ here.
      let same : c ≡ container = some_is c container (sym (found_now (holds a) c cs here) ∙ found) in
      omega (arith, ap (passing (is_held n)) same))
      (λ other. omega (arith, counts_found cs container (sym (found_later (holds a) c cs other) ∙ found)))

  -- the container of one paragraph is that of each that it holds
  pub found_by_other : (cs : List Held) (container : Held) → held_times n cs ≤ 1 → find (holds a) cs ≡ Some container → holds n container ≡ true → find (holds n) cs ≡ Some container
  found_by_other [] container once found there = absurd (none-some container found)
  found_by_other (c ∷ cs) container once found there =
      by_test (holds a c)
      (λ here.
      let same : c ≡ container = some_is c container (sym (found_now (holds a) c cs here) ∙ found) in
      found_now (holds n) c cs (ap (holds n) same ∙ there) ∙ ap Some same)
      (λ other.
      let later : find (holds a) cs ≡ Some container = sym (found_later (holds a) c cs other) ∙ found in
      let some : 1 ≤ passing (is_held n) container = some_pass (is_held n) container there in
      let counts : passing (is_held n) container ≤ held_times n cs = counts_found cs container later in
      by_test (holds n c)
      (λ here. absurd (omega (arith, once, some, counts, some_pass (is_held n) c here)))
      (λ not_here. found_later (holds n) c cs not_here ∙ found_by_other cs container (omega (arith, once)) later there))

passing_dropped : {X : Type 0} (p : X → Bool) (k : ℕ) (xs : List X) → passing p (drop k xs) ≤ passing p xs
passing_dropped p zero xs = omega arith
passing_dropped p (suc k) [] = omega arith
passing_dropped p (suc k) (x ∷ xs) = omega (arith, passing_dropped p k xs)

-- the container that holds a paragraph
pub record Found (doc : Document) (par : ParId) : Type 0 where
  pub container : Held
  pub found : find (holds par.0) (containers doc) ≡ Some container
  pub here : holds par.0 container ≡ true
  pub is : container_of doc par ≡ container

found_at : (doc : Document) (par : ParId) (container : Held) → find (holds par.0) (containers doc) ≡ Some container → Found doc par
found_at doc par container found =
    record { container = container; found = found; here = found_passes (holds par.0) (containers doc) container found; is = ap (λ (o : Option Held). unwrap_or o []) found }

-- something is held from it on
pub from_held : (doc : Document) (par : ParId) (test : Held → Bool) → test [] ≡ false → test (held_from doc par) ≡ true → Found doc par
from_held doc par test none some = by_found (find (holds par.0) (containers doc)) refl where
  by_found : (found : Option Held) → find (holds par.0) (containers doc) ≡ found → Found doc par
  by_found None nowhere = absurd (false≢true (sym none ∙ ap (λ (o : Option Held). test (from_first (is_held par.0) (unwrap_or o []))) (sym nowhere) ∙ some))
  by_found (Some container) found = found_at doc par container found

-- it is live
none_pass : (n : ℕ) (c : Held) → list_any (is_held n) c ≡ false → passing (is_held n) c ≡ 0
none_pass n [] none = refl
none_pass n (h ∷ c) none = by_held (is_held n h) none (none_pass n c) where
  by_held : (test : Bool) → (test || list_any (is_held n) c) ≡ false → (list_any (is_held n) c ≡ false → passing (is_held n) c ≡ 0) → cond test 1 0 + passing (is_held n) c ≡ 0
  by_held true none rest = absurd (false≢true (sym none))
  by_held false none rest = let more : passing (is_held n) c ≡ 0 = rest none in omega (arith, more)

pub record Somewhere (n : ℕ) (cs : List Held) : Type 0 where
  pub container : Held
  pub found : find (holds n) cs ≡ Some container

pub held_somewhere : (n : ℕ) (cs : List Held) → 1 ≤ held_times n cs → Somewhere n cs
held_somewhere n [] some = absurd (omega (arith, some))
held_somewhere n (c ∷ cs) some =
    by_test (holds n c)
    (λ here. record { container = c; found = found_now (holds n) c cs here })
    (λ other.
    let later : Somewhere n cs = held_somewhere n cs (omega (arith, some, none_pass n c other)) in
    record { container = later.container; found = found_later (holds n) c cs other ∙ later.found })

pub live_counts : (n : ℕ) (pars : List Par) → find (λ (par : Par). eqb (number_of par) n) pars ≢ None → 1 ≤ tally n pars
live_counts n [] live = absurd (live refl)
live_counts n (par ∷ pars) live =
    by_test (eqb (number_of par) n)
    (λ is. omega (arith, ap {B = ℕ} (λ (b : Bool). cond b 1 0) is))
    (λ other. omega (arith, live_counts n pars (λ none. live (found_later (λ (par : Par). eqb (number_of par) n) par pars other ∙ none))))

pub live_found : (doc : Document) (par : ParId) → live_paragraph doc par ≢ None → Found doc par
live_found doc par live =
    let there : Somewhere par.0 (containers doc) = held_somewhere par.0 (containers doc) (omega (arith, live_counts par.0 (paragraphs doc) live, held_is par.0 doc)) in
    found_at doc par there.container there.found

-- what a container that is found shares
module _ (doc : Document) (apart : IsApart doc) where
  -- the container of another that it holds
  pub same_found : (par other : ParId) (it : Found doc par) → holds other.0 it.container ≡ true → container_of doc other ≡ it.container
  same_found par other it there =
      ap (λ (o : Option Held). unwrap_or o []) (found_by_other par.0 other.0 (containers doc) it.container (held_once other.0 doc apart) it.found there)

  no_order : (first other : ParId) (it : Found doc first) → holds other.0 it.container ≡ false → are_in_order doc first other ≡ false
  no_order first other it not_held =
      by_test (are_in_order doc first other)
      (λ order.
      absurd (false≢true (sym not_held ∙ from_there (is_held first.0) (is_held other.0) it.container (ap (λ (c : Held). holds other.0 (from_first (is_held first.0) c)) (sym it.is) ∙ order))))
      (λ none. none)

  -- a paragraph that another stands behind in a container is held by the container of that
  held_back : (first other : ParId) (it : Found doc first) → are_in_order doc other first ≡ true → holds other.0 it.container ≡ true
  held_back first other it order =
      let from : Found doc other = from_held doc other (holds first.0) refl order in
      let there : holds first.0 from.container ≡ true = from_there (is_held other.0) (is_held first.0) from.container (ap (λ (c : Held). holds first.0 (from_first (is_held other.0) c)) (sym from.is) ∙ order) in
      let same : from.container ≡ it.container = sym (same_found other first from there) ∙ it.is in
      ap (holds other.0) (sym same) ∙ from.here

  shared : (first other : ParId) (it : Found doc first) → holds other.0 it.container ≡ (are_in_order doc first other || are_in_order doc other first)
  shared first other it =
      by_test (holds other.0 it.container)
      (λ held.
      held
      ∙ sym (ap₂ (λ (c d : Held). holds other.0 (from_first (is_held first.0) c) || holds first.0 (from_first (is_held other.0) d)) it.is (same_found first other it held)
      ∙ either_behind (is_held first.0) (is_held other.0) it.container it.here held))
      (λ not_held.
      not_held
      ∙ sym (ap₂ (λ (a b : Bool). a || b) (no_order first other it not_held)
      (by_test (are_in_order doc other first) (λ order. absurd (false≢true (sym not_held ∙ held_back first other it order))) (λ none. none))))

  -- two paragraphs stand in one container where one stands behind the other
  pub one_container : (first other : ParId) → live_paragraph doc first ≢ None → holds other.0 (container_of doc first) ≡ (are_in_order doc first other || are_in_order doc other first)
  one_container first other live = let it : Found doc first = live_found doc first live in ap (holds other.0) it.is ∙ shared first other it

  between : (first last other : ParId) (it : Found doc first) → holds last.0 (from_first (is_held first.0) it.container) ≡ true
      → holds other.0 (through_first (is_held last.0) (from_first (is_held first.0) it.container)) ≡ (are_in_order doc first other && are_in_order doc other last)
  between first last other it found =
      let from : Held = from_first (is_held first.0) it.container in
      let order : are_in_order doc first other ≡ holds other.0 from = ap (λ (c : Held). holds other.0 (from_first (is_held first.0) c)) it.is in
      by_test (holds other.0 from)
      (λ behind.
      let held : holds other.0 it.container ≡ true = from_there (is_held first.0) (is_held other.0) it.container behind in
      let once : passing (is_held other.0) it.container ≤ 1 = omega (arith, counts_found first.0 other.0 (containers doc) it.container it.found, held_once other.0 doc apart) in
      let last_once : passing (is_held last.0) from ≤ 1 =
      omega (
        arith,
        counts_found first.0 last.0 (containers doc) it.container it.found,
        held_once last.0 doc apart,
        passing_dropped (is_held last.0) (position_or_len (is_held first.0) it.container) it.container,
      )
      in
      through_both (is_held last.0) (is_held other.0) from last_once found behind
      ∙ ap (holds last.0) (sym (from_both (is_held first.0) (is_held other.0) it.container once behind))
      ∙ ap (λ (c : Held). holds last.0 (from_first (is_held other.0) c)) (sym (same_found first other it held))
      ∙ sym (ap (λ (b : Bool). b && are_in_order doc other last) (order ∙ behind)))
      (λ not_behind.
      by_test (holds other.0 (through_first (is_held last.0) from)) (λ among. absurd (false≢true (sym not_behind ∙ through_there (is_held last.0) (is_held other.0) from among))) (λ none. none)
      ∙ sym (ap (λ (b : Bool). b && are_in_order doc other last) (order ∙ not_behind)))

  -- a third stands among those from one to another where it stands between them
  pub stands_among : (first last other : ParId) → are_in_order doc first last ≡ true → holds other.0 (held_between doc first last) ≡ (are_in_order doc first other && are_in_order doc other last)
  stands_among first last other order =
      let it : Found doc first = from_held doc first (holds last.0) refl order in
      ap (λ (c : Held). holds other.0 (through_first (is_held last.0) (from_first (is_held first.0) c))) it.is
      ∙ between first last other it (ap (λ (c : Held). holds last.0 (from_first (is_held first.0) c)) (sym it.is) ∙ order)
