-- The greatest length of names, whatever their order.
use Rattle.std.proofs.Common.{◌≡◌, ℕ, List, [], ◌∷◌, ◌++◌, map, length, refl, ap, ap₂, sym, ◌∙◌, arith}
use Rattle.std.specs.Prelude.{max, fold}
use Rattle.std.specs.List.{flat_map}
use Rattle.std.proofs.lemmas.List.{map-append}
use Rattle.std.proofs.lemmas.List.Sums.{fold-append}
use Rattle.doc_model.specs.Limits.{greatest}
use Rattle.node_array.specs.declared.row.Row.{Row}
use Rattle.row_measures.specs.RowNames.{longest}

pub max_assoc : (a b c : ℕ) → max (max a b) c ≡ max a (max b c)
max_assoc a b c = omega arith

max_swap : (a b c d : ℕ) → max (max a b) (max c d) ≡ max (max a c) (max b d)
max_swap a b c d = omega arith

max_none : (a : ℕ) → max a 0 ≡ a
max_none a = omega arith

none_max : (a : ℕ) → max 0 a ≡ a
none_max a = omega arith

from_start : (a : ℕ) (xs : List ℕ) → fold max a xs ≡ max a (fold max 0 xs)
from_start a [] = sym (max_none a)
from_start a (x ∷ xs) =
    from_start (max a x) xs ∙ max_assoc a x (fold max 0 xs)
    ∙ ap (λ (n : ℕ). max a n) (sym (from_start (max 0 x) xs ∙ ap (λ (n : ℕ). max n (fold max 0 xs)) (none_max x)))

greatest_append : (xs ys : List ℕ) → greatest (xs ++ ys) ≡ max (greatest xs) (greatest ys)
greatest_append xs ys = fold-append max 0 xs ys ∙ from_start (fold max 0 xs) ys

pub longest_append : (xs ys : List (List ℕ)) → longest (xs ++ ys) ≡ max (longest xs) (longest ys)
longest_append xs ys = ap greatest (map-append (length {A = ℕ}) xs ys) ∙ greatest_append (map length xs) (map length ys)

-- names of two sorts in each row
pub longest_both : (f g : Row → List (List ℕ)) (rows : List Row) → longest (flat_map (λ one. f one ++ g one) rows) ≡ max (longest (flat_map f rows)) (longest (flat_map g rows))
longest_both f g [] = refl
longest_both f g (one ∷ rows) =
    longest_append (f one ++ g one) (flat_map (λ one. f one ++ g one) rows)
    ∙ ap₂ max (longest_append (f one) (g one)) (longest_both f g rows)
    ∙ max_swap (longest (f one)) (longest (g one)) (longest (flat_map f rows)) (longest (flat_map g rows))
    ∙ ap₂ max (sym (longest_append (f one) (flat_map f rows))) (sym (longest_append (g one) (flat_map g rows)))
