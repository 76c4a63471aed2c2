-- Labels by the numbers of paragraphs, where no number is that of two.
use Rattle.std.proofs.Common.{◌≡◌, ◌≢◌, ℕ, ◌+◌, ◌<◌, ◌≤◌, true, Bool, cond, List, ◌∷◌, ◌++◌, map, length, get_or, Some, None, sym, ap, subst, ◌∙◌, arith, length-append, eq-eqb}
use Rattle.std.specs.Prelude.{◌==◌, AllPairs, position, unwrap_or, nat_lt}
use Rattle.std.specs.List.{position_or_len}
use Rattle.std.proofs.Math.Seq.{get_or-append_seam}
use Rattle.std.proofs.lemmas.Bool.{ne_eqb}
use Rattle.std.proofs.lemmas.Bool.Decides.{nat_tests}
use Rattle.std.proofs.lemmas.List.{get_or-map, length-map}
use Rattle.std.proofs.lemmas.List.Sums.{position_or_len_is}

-- the place of the one with a number among these
pub place_there : {X : Type 0} (f : X → ℕ) (xs : List X) (i : ℕ) (x : X) → AllPairs (λ left right. left ≢ right) (map f xs) → i < length xs → get_or xs i x ≡ x
    → position_or_len (λ other. f other == f x) xs ≡ i
place_there f xs i x apart inside there =
    let within : i ≤ length xs = omega arith in
    position_or_len_is (λ other. f other == f x) xs i x within
    (λ k before.
    let sooner : k < length xs = omega arith in
    let long : length (map f xs) ≡ length xs = length-map xs f in
    let behind : i < length (map f xs) = omega arith in
    ne_eqb (f (get_or xs k x)) (f x)
    (λ same. apart k i (f x) before behind (get_or-map f xs k x (f x) sooner ∙ same ∙ sym (ap f there) ∙ sym (get_or-map f xs i x (f x) inside))))
    (λ here. eq-eqb (f (get_or xs i x)) (f x) (ap f there))

found : (at count otherwise : ℕ) → at < count → unwrap_or (cond (nat_lt at count) (Some at) None) otherwise ≡ at
found at count otherwise below =
    let test : nat_lt at count ≡ true = grind (arith, nat_tests) in
    ap (λ (b : Bool). unwrap_or (cond b (Some at) None) otherwise) test

-- the place of the one behind others
pub place_behind : {X : Type 0} (f : X → ℕ) (all front : List X) (x : X) (back : List X) → all ≡ front ++ x ∷ back → AllPairs (λ left right. left ≢ right) (map f all)
    → unwrap_or (position (λ other. f other == f x) all) 0 ≡ length front
place_behind {X = X} f all front x back e apart =
    let test = λ (other : X). f other == f x in
    let long : length (front ++ x ∷ back) ≡ length front + length (x ∷ back) = length-append front (x ∷ back) in
    let inside : length front < length (front ++ x ∷ back) = omega arith in
    let here : position_or_len test (front ++ x ∷ back) ≡ length front =
    place_there f (front ++ x ∷ back) (length front) x (subst (λ (xs : List X). AllPairs (λ left right. left ≢ right) (map f xs)) e apart) inside (get_or-append_seam front x back x) in
    ap (λ (xs : List X). unwrap_or (position test xs) 0) e
    ∙ ap (λ (at : ℕ). unwrap_or (cond (nat_lt at (length (front ++ x ∷ back))) (Some at) None) 0) here
    ∙ found (length front) (length (front ++ x ∷ back)) 0 inside
