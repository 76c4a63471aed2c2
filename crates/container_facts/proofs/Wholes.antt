-- Parts of a container that are all of it.
use Rattle.std.proofs.Common.{◌≡◌, ℕ, ◌+◌, ◌≤◌, Bool, true, eqb, ◌&&◌, List, [], ◌∷◌, length, refl, ap, ap₂, sym, ◌∙◌, arith, ⊎_elim}
use Rattle.std.specs.List.{list_any}
use Rattle.std.proofs.lemmas.Bool.{false≢true, eq-eqb, ne_eqb, eqb-true, cases_eq}
use Rattle.doc_model.specs.declared.document.Document.{Document}
use Rattle.doc_model.specs.declared.paragraph.ParId.{ParId}
use Rattle.container_rows.specs.Standing.{IsApart}
use Rattle.container_rows.proofs.Firsts.{by_test}
use Rattle.edit_rules.specs.Places.{Held, are_in_order, container_of, containers, from_first, held_between, held_from, holds, is_held, through_first}
use Rattle.container_facts.specs.Fronts.{begins_with}
use Rattle.container_facts.proofs.Counts.{held_once}
use Rattle.container_facts.proofs.Lists.{any_later, from_both, from_it, from_later, from_there, passing, through_it, through_later}
use Rattle.container_facts.proofs.Shared.{Found, counts_found, from_held, same_found}

-- what is up to one, and what is from it on
both_lengths : {X : Type 0} (q : X → Bool) (xs : List X) → list_any q xs ≡ true → length (through_first q xs) + length (from_first q xs) ≡ length xs + 1
both_lengths q [] is = absurd (false≢true is)
both_lengths q (x ∷ xs) is =
    by_test (q x)
    (λ here. omega (arith, ap length (through_it q x xs here), ap length (from_it q x xs here)))
    (λ other. omega (arith, ap length (through_later q x xs other), ap length (from_later q x xs other), both_lengths q xs (sym (any_later q x xs other) ∙ is)))

from_length : {X : Type 0} (q : X → Bool) (xs : List X) → length (from_first q xs) ≤ length xs
from_length q [] = omega arith
from_length q (x ∷ xs) =
    by_test (q x) (λ here. omega (arith, ap length (from_it q x xs here))) (λ other. omega (arith, ap length (from_later q x xs other), from_length q xs))

some_length : {X : Type 0} (q : X → Bool) (xs : List X) → list_any q xs ≡ true → 1 ≤ length (from_first q xs)
some_length q [] is = absurd (false≢true is)
some_length q (x ∷ xs) is =
    by_test (q x)
    (λ here. omega (arith, ap length (from_it q x xs here)))
    (λ other. omega (arith, ap length (from_later q x xs other), some_length q xs (sym (any_later q x xs other) ∙ is)))

-- where all is from it on, it is the first
whole_front : (n : ℕ) (c : Held) → list_any (is_held n) c ≡ true → eqb (length (from_first (is_held n) c)) (length c) ≡ begins_with n c
whole_front n [] is = absurd (false≢true is)
whole_front n (held ∷ c) is =
    by_test (is_held n held)
    (λ here. eq-eqb (length (from_first (is_held n) (held ∷ c))) (length (held ∷ c)) (ap length (from_it (is_held n) held c here)) ∙ sym here)
    (λ other.
    let fewer : length (from_first (is_held n) c) ≤ length c = from_length (is_held n) c in
    let same : length (from_first (is_held n) (held ∷ c)) ≡ length (from_first (is_held n) c) = ap length (from_later (is_held n) held c other) in
    ne_eqb (length (from_first (is_held n) (held ∷ c))) (length (held ∷ c)) (λ e. omega (arith, e, same, fewer)) ∙ sym other)

none_left : {X : Type 0} (ys : List X) → length ys ≡ 0 → ys ≡ []
none_left [] none = refl
none_left (y ∷ ys) none = absurd (omega (arith, none))

-- where one alone is from it on, all is up to it
all_through : {X : Type 0} (q : X → Bool) (xs : List X) → list_any q xs ≡ true → length (from_first q xs) ≡ 1 → through_first q xs ≡ xs
all_through q [] is one = absurd (false≢true is)
all_through q (x ∷ xs) is one =
    by_test (q x)
    (λ here. through_it q x xs here ∙ ap (λ ys. x ∷ ys) (sym (none_left xs (omega (arith, one, ap length (from_it q x xs here))))))
    (λ other. through_later q x xs other ∙ ap (λ ys. x ∷ ys) (all_through q xs (sym (any_later q x xs other) ∙ is) (sym (ap length (from_later q x xs other)) ∙ one)))

-- how long the parts are
sums : (through from front whole : ℕ) → through + from ≡ front + 1 → front ≤ whole → 1 ≤ from → eqb through whole ≡ (eqb front whole && eqb from 1)
sums through from front whole sum within some =
    ⊎_elim
    (λ all.
    ⊎_elim
    (λ one. eq-eqb through whole (omega (arith, sum, all, one)) ∙ sym (ap₂ (λ (a b : Bool). a && b) (eq-eqb front whole all) (eq-eqb from 1 one)))
    (λ more. ne_eqb through whole (λ e. more (omega (arith, e, sum, all))) ∙ sym (ap₂ (λ (a b : Bool). a && b) (eq-eqb front whole all) (ne_eqb from 1 more)))
    (cases_eq from 1))
    (λ part.
    ne_eqb through whole (λ e. part (omega (arith, e, sum, within, some))) ∙ sym (ap (λ (a : Bool). a && eqb from 1) (ne_eqb front whole part)))
    (cases_eq front whole)

module _ (doc : Document) (apart : IsApart doc) (first last : ParId) (order : are_in_order doc first last ≡ true) where
  abbrev it : Found doc first
  it = from_held doc first (holds last.0) refl order

  abbrev from : Held
  from = from_first (is_held first.0) it.container

  behind : holds last.0 from ≡ true
  behind = ap (λ (c : Held). holds last.0 (from_first (is_held first.0) c)) (sym it.is) ∙ order

  there : holds last.0 it.container ≡ true
  there = from_there (is_held first.0) (is_held last.0) it.container behind

  -- what is from the last one on
  last_from : held_from doc last ≡ from_first (is_held last.0) from
  last_from =
      let once : passing (is_held last.0) it.container ≤ 1 = omega (arith, counts_found first.0 last.0 (containers doc) it.container it.found, held_once last.0 doc apart) in
      ap (from_first (is_held last.0)) (same_found doc apart first last it there) ∙ from_both (is_held first.0) (is_held last.0) it.container once behind

  -- those from the first to the last are all of their container where the first begins it, and nothing stands behind the last
  pub whole : eqb (length (held_between doc first last)) (length (container_of doc first)) ≡ (begins_with first.0 (container_of doc first) && eqb (length (held_from doc last)) 1)
  whole =
      ap (λ (c : Held). eqb (length (through_first (is_held last.0) (from_first (is_held first.0) c))) (length c)) it.is
      ∙ sums (length (through_first (is_held last.0) from)) (length (from_first (is_held last.0) from)) (length from) (length it.container)
      (both_lengths (is_held last.0) from behind) (from_length (is_held first.0) it.container) (some_length (is_held last.0) from behind)
      ∙ ap₂ (λ (a b : Bool). a && b) (whole_front first.0 it.container it.here ∙ ap (begins_with first.0) (sym it.is)) (ap (λ (c : Held). eqb (length c) 1) (sym last_from))

  -- and they are the container then
  pub all_held : begins_with first.0 (container_of doc first) ≡ true → eqb (length (held_from doc last)) 1 ≡ true → held_between doc first last ≡ container_of doc first
  all_held front ends =
      ap (λ (c : Held). through_first (is_held last.0) (from_first (is_held first.0) c)) it.is
      ∙ all_through (is_held last.0) from behind (sym (ap length last_from) ∙ eqb-true (length (held_from doc last)) 1 ends)
      ∙ all_from first.0 it.container (ap (begins_with first.0) (sym it.is) ∙ front)
      ∙ sym it.is where
        all_from : (n : ℕ) (c : Held) → begins_with n c ≡ true → from_first (is_held n) c ≡ c
        all_from n [] is = absurd (false≢true is)
        all_from n (held ∷ c) is = from_it (is_held n) held c is
