-- A list with a gap from i up to j, once one item has passed the gap: the cells i and j are swapped.
use Rattle.std.proofs.Common.{◌≡◌, ℕ, ◌+◌, ◌<◌, ◌≤◌, List, [], ◌∷◌, ◌++◌, length, get_or, take, drop, sym, ap, ◌∙◌, subst, append_assoc, take-append-drop, arith, ⊎_elim}
use Rattle.std.proofs.Math.ListN.{set}
use Rattle.std.specs.List.{remove_range, swap}
use Rattle.std.proofs.lemmas.List.{take-take, take-set-le, take-set, take_more, take_more_set, drop_at, drop-drop, drop-set, drop-set-lt, drop_more, length-set, length-take-le}
use Rattle.std.proofs.lemmas.Bool.{cases_lt}

-- what is written at i and past it leaves what stands before i
before_both : {T : Type 0} (xs : List T) (i j : ℕ) (a b : T) → i ≤ j → take i (set (set xs i a) j b) ≡ take i xs
before_both xs i j a b le = take-set-le i (set xs i a) j b le ∙ take-set xs i a

-- what is written at j and before it leaves what stands past j
past_both : {T : Type 0} (xs : List T) (i j : ℕ) (a b : T) → i ≤ j → j < length xs → drop j (set (set xs i a) j b) ≡ b ∷ drop (j + 1) xs
past_both xs i j a b le within =
    drop-set (set xs i a) j b (omega (arith, length-set xs i a)) ∙ ap (λ zs. b ∷ zs) (drop-set-lt (j + 1) xs i a (omega arith))

-- the item before the gap has gone behind it
passed_back : {T : Type 0} (xs : List T) (i j : ℕ) → i ≤ j → j < length xs → remove_range (swap xs i j) i j ≡ remove_range xs (i + 1) (j + 1)
passed_back [] i j le within = absurd (omega arith)
passed_back (d ∷ ys) i j le within =
    let xs = d ∷ ys in
    let a = get_or xs j d in
    let b = get_or xs i d in
    ap (λ zs. zs ++ drop j (set (set xs i a) j b)) (before_both xs i j a b le) ∙ ap (λ zs. take i xs ++ zs) (past_both xs i j a b le within) ∙ sym (append_assoc (take i xs) (b ∷ []) (drop (j + 1) xs)) ∙ ap (λ zs. zs ++ drop (j + 1) xs) (sym (take_more xs i d (omega arith)))

-- the item behind a gap that is not empty has gone before it
passed_wide : {T : Type 0} (xs : List T) (i j : ℕ) → i < j → j < length xs → remove_range (swap xs i j) (i + 1) (j + 1) ≡ remove_range xs i j
passed_wide [] i j lt within = absurd (omega arith)
passed_wide (d ∷ ys) i j lt within =
    let xs = d ∷ ys in
    let a = get_or xs j d in
    let b = get_or xs i d in
    let front : take (i + 1) (set (set xs i a) j b) ≡ take i xs ++ a ∷ [] =
    take-set-le (i + 1) (set xs i a) j b (omega arith) ∙ take_more_set xs i a (omega arith) in
    let back : drop (j + 1) (set (set xs i a) j b) ≡ drop (j + 1) xs =
    drop-set-lt (j + 1) (set xs i a) j b (omega arith) ∙ drop-set-lt (j + 1) xs i a (omega arith) in
    ap (λ zs. zs ++ drop (j + 1) (set (set xs i a) j b)) front ∙ ap (λ zs. (take i xs ++ a ∷ []) ++ zs) back ∙ append_assoc (take i xs) (a ∷ []) (drop (j + 1) xs) ∙ ap (λ zs. take i xs ++ zs) (sym (drop_more xs j d within))

-- an empty gap is passed by moving its place
passed_empty : {T : Type 0} (xs : List T) (i : ℕ) → i < length xs → remove_range (swap xs i i) (i + 1) (i + 1) ≡ remove_range xs i i
passed_empty xs i within =
    take-append-drop (i + 1) (swap xs i i) ∙ sym (take-append-drop i (swap xs i i)) ∙ passed_back xs i i (omega arith) within ∙ take-append-drop (i + 1) xs ∙ sym (take-append-drop i xs)

-- the item behind the gap has gone before it
passed_ahead : {T : Type 0} (xs : List T) (i j : ℕ) → i ≤ j → j < length xs → remove_range (swap xs i j) (i + 1) (j + 1) ≡ remove_range xs i j
passed_ahead {T} xs i j le within =
    ⊎_elim (λ lt. passed_wide xs i j lt within) (λ ge. let P : ℕ → Type 0 = λ k. remove_range (swap xs i k) (i + 1) (k + 1) ≡ remove_range xs i k in let e : i ≡ j = omega arith in subst P e (passed_empty xs i (omega arith))) (cases_lt i j)

-- a gap of w cells one place further on holds the same list, and one place further back
pub kept_ahead : {T : Type 0} (xs zs : List T) (i w : ℕ) → zs ≡ swap xs i (i + w) → i + w < length xs → remove_range zs (i + 1) (i + 1 + w) ≡ remove_range xs i (i + w)
kept_ahead {T} xs zs i w e within =
    let n : i + 1 + w ≡ i + w + 1 = omega arith in
    ap (λ ys. remove_range ys (i + 1) (i + 1 + w)) e ∙ ap (λ k. remove_range (swap xs i (i + w)) (i + 1) k) n ∙ passed_ahead xs i (i + w) (omega arith) within

pub kept_back : {T : Type 0} (xs zs : List T) (i s w : ℕ) → zs ≡ swap xs i (i + w) → s ≡ i + 1 → i + w < length xs → remove_range zs i (i + w) ≡ remove_range xs s (s + w)
kept_back {T} xs zs i s w e next within =
    let n : i + w + 1 ≡ s + w = omega arith in
    ap (λ ys. remove_range ys i (i + w)) e ∙ passed_back xs i (i + w) (omega arith) within ∙ ap (λ k. remove_range xs (i + 1) k) n ∙ ap (λ k. remove_range xs k (s + w)) (sym next)

-- lists with one front have each shorter front in common, and each shorter rest
pub take-shorter : {T : Type 0} (xs ys : List T) (m n : ℕ) → take n xs ≡ take n ys → m ≤ n → take m xs ≡ take m ys
take-shorter xs ys m n same le =
    sym (take-take m n xs le) ∙ ap (λ zs. take m zs) same ∙ take-take m n ys le

pub drop-further : {T : Type 0} (xs ys : List T) (i j k : ℕ) → drop i xs ≡ drop j ys → drop (i + k) xs ≡ drop (j + k) ys
drop-further xs ys i j k same =
    sym (drop-drop k i xs) ∙ ap (λ zs. drop k zs) same ∙ drop-drop k j ys

-- the list that a gap leaves, from the gap on
pub drop-at_gap : {T : Type 0} (xs : List T) (i j k : ℕ) → i ≤ length xs → drop (i + k) (remove_range xs i j) ≡ drop (j + k) xs
drop-at_gap xs i j k within =
    sym (drop-drop k i (remove_range xs i j)) ∙ ap (λ zs. drop k zs) (drop_at (take i xs) (drop j xs) i (length-take-le i xs within)) ∙ drop-drop k j xs
