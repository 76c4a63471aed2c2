-- A range of the list that a gap leaves, as the piece before the gap and the piece behind it.
use Rattle.std.proofs.Common.{◌≡◌, ℕ, ◌+◌, ◌-◌, ◌<◌, ◌≤◌, List, ◌++◌, length, take, drop, min, max, sym, ap, ◌∙◌, arith, ⊎_elim, length-drop}
use Rattle.std.proofs.Math.Seq.{take-append-add}
use Rattle.std.specs.List.{between, remove_range}
use Rattle.std.proofs.lemmas.List.{append-nil, drop-append-le, length-take-le, take-append-le, take-take}
use Rattle.std.proofs.lemmas.Slice.{between_is}
use Rattle.std.proofs.lemmas.Bool.{cases_lt}
use Rattle.run_text.proofs.Gaps.{drop-at_gap}

-- the range lies before the gap
before_gap : {T : Type 0} (xs : List T) (i j from to : ℕ) → i ≤ length xs → to ≤ i → between from to (remove_range xs i j) ≡ between from to xs
before_gap xs i j from to within le =
    let front : take to (remove_range xs i j) ≡ take to xs =
    take-append-le to (take i xs) (drop j xs) (omega (arith, length-take-le i xs within)) ∙ take-take to i xs le in
    between_is (remove_range xs i j) from to ∙ ap (drop from) front ∙ sym (between_is xs from to)

-- it lies behind the gap
pub behind_gap : {T : Type 0} (xs : List T) (i j from to p n : ℕ) → i ≤ length xs → i ≤ from → p ≡ j + (from - i) → n ≡ to - from → between from to (remove_range xs i j) ≡ take n (drop p xs)
behind_gap xs i j from to p n within le place count =
    let at : i + (from - i) ≡ from = omega arith in
    ap (λ k. take (to - from) (drop k (remove_range xs i j))) (sym at) ∙ ap (take (to - from)) (drop-at_gap xs i j (from - i) within) ∙ ap (λ k. take (to - from) (drop k xs)) (sym place) ∙ ap (λ k. take k (drop p xs)) (sym count)

-- it lies on both sides
over_gap : {T : Type 0} (xs : List T) (i j from to n : ℕ) → i ≤ length xs → from ≤ i → i ≤ to → n ≡ to - i → between from to (remove_range xs i j) ≡ between from i xs ++ take n (drop j xs)
over_gap xs i j from to n within le ge count =
    let front = take i xs in
    let start : between from i xs ≡ drop from front = between_is xs from i in
    let long : length (drop from front) ≡ i - from = omega (arith, length-drop from front, length-take-le i xs within) in
    let split : to - from ≡ length (drop from front) + n = omega arith in
    ap (take (to - from)) (drop-append-le from front (drop j xs) (omega (arith, length-take-le i xs within))) ∙ ap (λ k. take k (drop from front ++ drop j xs)) split ∙ take-append-add (drop from front) (drop j xs) n ∙ ap (λ zs. zs ++ take n (drop j xs)) (sym start)

-- The piece before the gap ends at the gap at most, and the piece behind it, w cells further on, begins there at least.
pub record ArePieces (i j from to a b p q : ℕ) : Type 0 where
  pub first_from : a ≡ min from i
  pub first_to : b ≡ min to i
  pub second_from : p ≡ j - i + max from i
  pub second_to : q ≡ j - i + max to i

pub range_from-pieces : {T : Type 0} (xs : List T) (i j from to a b p q : ℕ) → ArePieces i j from to a b p q → i ≤ length xs → i ≤ j → from ≤ to → between a b xs ++ between p q xs ≡ between from to (remove_range xs i j)
range_from-pieces xs i j from to a b p q are within gap order =
    let all_before : to < i → between a b xs ++ between p q xs ≡ between from to (remove_range xs i j) =
    λ lt. let none : q - p ≡ 0 = omega (arith, are.second_from, are.second_to) in
    let begins : a ≡ from = omega (arith, are.first_from) in
    let ends : b ≡ to = omega (arith, are.first_to) in
    ap (λ k. between a b xs ++ take k (drop p xs)) none ∙ append-nil (between a b xs) ∙ ap (λ k. between k b xs) begins ∙ ap (λ k. between from k xs) ends ∙ sym (before_gap xs i j from to within (omega arith)) in
    let on_both : i ≤ to → from < i → between a b xs ++ between p q xs ≡ between from to (remove_range xs i j) =
    λ le lt. let begins : a ≡ from = omega (arith, are.first_from) in
    let ends : b ≡ i = omega (arith, are.first_to) in
    let next : p ≡ j = omega (arith, are.second_from) in
    let count : q - p ≡ to - i = omega (arith, are.second_from, are.second_to) in
    ap (λ k. between k b xs ++ between p q xs) begins ∙ ap (λ k. between from k xs ++ between p q xs) ends ∙ ap (λ k. between from i xs ++ take (q - p) (drop k xs)) next ∙ sym (over_gap xs i j from to (q - p) within (omega arith) le count) in
    let all_behind : i ≤ to → i ≤ from → between a b xs ++ between p q xs ≡ between from to (remove_range xs i j) =
    λ le ge. let none : b - a ≡ 0 = omega (arith, are.first_from, are.first_to) in
    let place : p ≡ j + (from - i) = omega (arith, are.second_from) in
    let count : q - p ≡ to - from = omega (arith, are.second_from, are.second_to) in
    ap (λ k. take k (drop a xs) ++ between p q xs) none ∙ sym (behind_gap xs i j from to p (q - p) within ge place count) in
    ⊎_elim all_before (λ le. ⊎_elim (on_both le) (all_behind le) (cases_lt from i)) (cases_lt to i)
