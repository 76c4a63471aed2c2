-- What is found in lists from one element on and up to another.
use Rattle.std.proofs.Common.{◌≡◌, ℕ, ◌+◌, ◌≤◌, Bool, true, false, cond, not, ◌||◌, List, [], ◌∷◌, take, drop, zero, suc, refl, ap, sym, ◌∙◌, arith}
use Rattle.std.specs.List.{list_any, position_or_len}
use Rattle.std.proofs.lemmas.Bool.{false≢true}
use Rattle.container_rows.proofs.Firsts.{by_test}
use Rattle.edit_rules.specs.Places.{from_first, through_first}

-- how many elements pass
abbrev pub passing : {X : Type 0} → (X → Bool) → List X → ℕ
passing p [] = 0
passing p (x ∷ xs) = cond (p x) 1 0 + passing p xs

one_more : (n : ℕ) → 1 + n ≡ suc n
one_more n = omega arith

longer : (n : ℕ) → 1 + n + 1 ≡ suc (n + 1)
longer n = omega arith

counted : {X : Type 0} (p : X → Bool) (x : X) (test : Bool) → p x ≡ test → ◌≡◌ {A = ℕ} (cond (p x) 1 0) (cond test 1 0)
counted p x test is = ap {B = ℕ} (λ (b : Bool). cond b 1 0) is

-- one in front, by whether it passes
pub any_here : {X : Type 0} (p : X → Bool) (x : X) (xs : List X) → p x ≡ true → list_any p (x ∷ xs) ≡ true
any_here p x xs is = ap (λ (b : Bool). b || list_any p xs) is

pub any_later : {X : Type 0} (p : X → Bool) (x : X) (xs : List X) → p x ≡ false → list_any p (x ∷ xs) ≡ list_any p xs
any_later p x xs other = ap (λ (b : Bool). b || list_any p xs) other

pub from_it : {X : Type 0} (p : X → Bool) (x : X) (xs : List X) → p x ≡ true → from_first p (x ∷ xs) ≡ x ∷ xs
from_it p x xs is = ap (λ (b : Bool). drop (cond (not b) (1 + position_or_len p xs) 0) (x ∷ xs)) is

pub from_later : {X : Type 0} (p : X → Bool) (x : X) (xs : List X) → p x ≡ false → from_first p (x ∷ xs) ≡ from_first p xs
from_later p x xs other =
    ap (λ (b : Bool). drop (cond (not b) (1 + position_or_len p xs) 0) (x ∷ xs)) other ∙ ap (λ (n : ℕ). drop n (x ∷ xs)) (one_more (position_or_len p xs))

pub through_it : {X : Type 0} (p : X → Bool) (x : X) (xs : List X) → p x ≡ true → through_first p (x ∷ xs) ≡ x ∷ []
through_it p x xs is = ap (λ (b : Bool). take (cond (not b) (1 + position_or_len p xs) 0 + 1) (x ∷ xs)) is

pub through_later : {X : Type 0} (p : X → Bool) (x : X) (xs : List X) → p x ≡ false → through_first p (x ∷ xs) ≡ x ∷ through_first p xs
through_later p x xs other =
    ap (λ (b : Bool). take (cond (not b) (1 + position_or_len p xs) 0 + 1) (x ∷ xs)) other ∙ ap (λ (n : ℕ). take n (x ∷ xs)) (longer (position_or_len p xs))

-- one that passes counts
pub some_pass : {X : Type 0} (p : X → Bool) (xs : List X) → list_any p xs ≡ true → 1 ≤ passing p xs
some_pass p [] is = absurd (false≢true is)
some_pass p (x ∷ xs) is =
    by_test (p x)
    (λ here. omega (arith, counted p x true here))
    (λ other. omega (arith, some_pass p xs (sym (any_later p x xs other) ∙ is)))

-- nothing is found from one on that isn't there
pub from_none : {X : Type 0} (p : X → Bool) (xs : List X) → list_any p xs ≡ false → from_first p xs ≡ []
from_none p [] none = refl
from_none p (x ∷ xs) none =
    by_test (p x)
    (λ here. absurd (false≢true (sym none ∙ any_here p x xs here)))
    (λ other. from_later p x xs other ∙ from_none p xs (sym (any_later p x xs other) ∙ none))

any_dropped : {X : Type 0} (q : X → Bool) (n : ℕ) (xs : List X) → list_any q (drop n xs) ≡ true → list_any q xs ≡ true
any_dropped q zero xs is = is
any_dropped q (suc n) [] is = is
any_dropped q (suc n) (x ∷ xs) is = by_test (q x) (λ here. any_here q x xs here) (λ other. any_later q x xs other ∙ any_dropped q n xs is)

-- what is found from one on is there
pub from_there : {X : Type 0} (p q : X → Bool) (xs : List X) → list_any q (from_first p xs) ≡ true → list_any q xs ≡ true
from_there p q xs is = any_dropped q (position_or_len p xs) xs is

any_taken : {X : Type 0} (q : X → Bool) (n : ℕ) (xs : List X) → list_any q (take n xs) ≡ true → list_any q xs ≡ true
any_taken q zero xs is = absurd (false≢true is)
any_taken q (suc n) [] is = absurd (false≢true is)
any_taken q (suc n) (x ∷ xs) is = by_test (q x) (λ here. any_here q x xs here) (λ other. any_later q x xs other ∙ any_taken q n xs (sym (any_later q x (take n xs) other) ∙ is))

pub through_there : {X : Type 0} (p q : X → Bool) (xs : List X) → list_any q (through_first p xs) ≡ true → list_any q xs ≡ true
through_there p q xs is = any_taken q (position_or_len p xs + 1) xs is

or_true : (test : Bool) → (test || true) ≡ true
or_true true = refl
or_true false = refl

-- of two that are there, one is found from the other on
pub either_behind : {X : Type 0} (p q : X → Bool) (xs : List X) → list_any p xs ≡ true → list_any q xs ≡ true → (list_any q (from_first p xs) || list_any p (from_first q xs)) ≡ true
either_behind p q [] one other = absurd (false≢true one)
either_behind p q (x ∷ xs) one other =
    by_test (p x)
    (λ here. ap (λ ys. list_any q ys || list_any p (from_first q (x ∷ xs))) (from_it p x xs here) ∙ ap (λ (b : Bool). b || list_any p (from_first q (x ∷ xs))) other)
    (λ not_p.
    by_test (q x)
    (λ here.
    ap (λ ys. list_any q (from_first p (x ∷ xs)) || list_any p ys) (from_it q x xs here) ∙ ap (λ (b : Bool). list_any q (from_first p (x ∷ xs)) || b) one
    ∙ or_true (list_any q (from_first p (x ∷ xs))))
    (λ not_q.
    ap (λ ys. list_any q ys || list_any p (from_first q (x ∷ xs))) (from_later p x xs not_p)
    ∙ ap (λ ys. list_any q (from_first p xs) || list_any p ys) (from_later q x xs not_q)
    ∙ either_behind p q xs (sym (any_later p x xs not_p) ∙ one) (sym (any_later q x xs not_q) ∙ other)))

-- from the second on, where it is found from the first on and passes once
pub from_both : {X : Type 0} (p q : X → Bool) (xs : List X) → passing q xs ≤ 1 → list_any q (from_first p xs) ≡ true → from_first q xs ≡ from_first q (from_first p xs)
from_both p q [] once found = refl
from_both p q (x ∷ xs) once found =
    by_test (p x)
    (λ here. ap (from_first q) (sym (from_it p x xs here)))
    (λ not_p.
    let later : list_any q (from_first p xs) ≡ true = ap (list_any q) (sym (from_later p x xs not_p)) ∙ found in
    let some : 1 ≤ passing q xs = some_pass q xs (from_there p q xs later) in
    by_test (q x)
    (λ here. absurd (omega (arith, once, some, counted q x true here)))
    (λ not_q.
    let fewer : passing q xs ≤ 1 = omega (arith, once) in
    from_later q x xs not_q ∙ from_both p q xs fewer later ∙ ap (from_first q) (sym (from_later p x xs not_p))))

-- up to the last one, which passes once
pub through_both : {X : Type 0} (p q : X → Bool) (xs : List X) → passing p xs ≤ 1 → list_any p xs ≡ true → list_any q xs ≡ true → list_any q (through_first p xs) ≡ list_any p (from_first q xs)
through_both p q [] once last other = absurd (false≢true last)
through_both p q (x ∷ xs) once last other =
    let fewer : passing p xs ≤ 1 = omega (arith, once) in
    by_test (p x)
    (λ is_p.
    ap (list_any q) (through_it p x xs is_p)
    ∙ by_test (q x)
    (λ is_q. any_here q x [] is_q ∙ sym (ap (list_any p) (from_it q x xs is_q) ∙ any_here p x xs is_p))
    (λ not_q. any_later q x [] not_q ∙ sym (ap (list_any p) (from_later q x xs not_q) ∙ none_behind (is_nothing is_p))))
    (λ not_p.
    let there : list_any p xs ≡ true = sym (any_later p x xs not_p) ∙ last in
    ap (list_any q) (through_later p x xs not_p)
    ∙ by_test (q x)
    (λ is_q. any_here q x (through_first p xs) is_q ∙ sym (ap (list_any p) (from_it q x xs is_q) ∙ last))
    (λ not_q.
    any_later q x (through_first p xs) not_q ∙ through_both p q xs fewer there (sym (any_later q x xs not_q) ∙ other) ∙ ap (list_any p) (sym (from_later q x xs not_q)))) where
      is_nothing : p x ≡ true → passing p xs ≡ 0
      is_nothing is_p = omega (arith, once, counted p x true is_p)

      none_behind : passing p xs ≡ 0 → list_any p (from_first q xs) ≡ false
      none_behind none =
          by_test (list_any p (from_first q xs))
          (λ found. absurd (let some : 1 ≤ passing p xs = some_pass p xs (from_there q p xs found) in omega (arith, none, some)))
          (λ not_found. not_found)
