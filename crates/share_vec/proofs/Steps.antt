-- What an edit does in a list of two sides, and what a cut does.
use Rattle.std.proofs.Common.{◌≡◌, ℕ, ◌+◌, ◌-◌, ◌≤◌, List, ◌++◌, length, take, drop, ap, ◌∙◌, arith, append_assoc, length-append, take-append-drop}
use Rattle.std.specs.List.{splice}
use Rattle.std.proofs.Math.Seq.{take-append-add, drop-append-add}
use Rattle.std.proofs.lemmas.List.{set-append_left, set-append_right, length-set, take-append-le, drop-append-le, drop_all}
use Rattle.std.proofs.lemmas.List.Edits.{insert-append_left, insert-append_right, remove-append_left, remove-append_right, length-insert, length-remove}

-- a cut behind the first list is one in the second
pub take-append_right : {T : Type 0} (xs ys : List T) (n i : ℕ) → length xs ≡ n → n ≤ i → take i (xs ++ ys) ≡ xs ++ take (i - n) ys
take-append_right xs ys n i long within =
    let at : i ≡ length xs + (i - n) = omega (arith, long) in
    ap (λ k. take k (xs ++ ys)) at ∙ take-append-add xs ys (i - n)

pub drop-append_right : {T : Type 0} (xs ys : List T) (n i : ℕ) → length xs ≡ n → n ≤ i → drop i (xs ++ ys) ≡ drop (i - n) ys
drop-append_right xs ys n i long within =
    let at : i ≡ length xs + (i - n) = omega (arith, long) in
    ap (λ k. drop k (xs ++ ys)) at ∙ drop-append-add xs ys (i - n)

-- a range behind the first list is one in the second
pub splice-append_right : {T : Type 0} (xs ys items : List T) (n from to : ℕ) → length xs ≡ n → n ≤ from → from ≤ to → splice (xs ++ ys) from to items ≡ xs ++ splice ys (from - n) (to - n) items
splice-append_right xs ys items n from to long within order =
    ap (λ zs. zs ++ (items ++ drop to (xs ++ ys))) (take-append_right xs ys n from long within) ∙ ap (λ zs. (xs ++ take (from - n) ys) ++ (items ++ zs)) (drop-append_right xs ys n to long (omega arith)) ∙ append_assoc xs (take (from - n) ys) (items ++ drop (to - n) ys)

pub ruleset edits = (set-append_left, set-append_right, insert-append_left, insert-append_right, remove-append_left, remove-append_right, append_assoc, length-append, take-append-drop, length-insert, length-remove, length-set)

pub ruleset parts = (take-append-le, drop-append-le, take-append_right, drop-append_right, drop_all, append_assoc, length-append)

pub ruleset splices = (splice-append_right, take-append-le, drop-append-le, take-append_right, drop-append_right, append_assoc, length-append)
