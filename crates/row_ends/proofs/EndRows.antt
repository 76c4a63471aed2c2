-- Rows up to so many End rows, one row at a time.
use Rattle.std.proofs.Common.{◌≡◌, ◌≤◌, ◌+◌, ℕ, zero, suc, List, [], ◌∷◌, ◌++◌, drop, length, refl, sym, ap, ◌∙◌, arith, add-one, add-zero, drop-cons, Some}
use Rattle.std.specs.Prelude.{slice_get}
use Rattle.std.specs.List.{between}
use Rattle.std.proofs.Math.Seq.{drop-length}
use Rattle.std.proofs.lemmas.List.Edits.{between_more}
use Rattle.std.proofs.lemmas.Option.{get_or_from_slice_get, slice_get_within}
use Rattle.node_array.specs.declared.row.Row.{Row}
use Rattle.node_array.specs.declared.row.Row.TheVariants as row
use Rattle.container_rows.specs.Texts.{through_ends}

-- the row at a place and those behind it
pub behind_at : (rows : List Row) (at : ℕ) (one : Row) → slice_get rows at ≡ Some one → drop at rows ≡ one ∷ drop (at + 1) rows
behind_at rows at one there =
    drop-cons rows at one (slice_get_within rows at one there) ∙ ap (λ (r : Row). r ∷ drop (suc at) rows) (get_or_from_slice_get rows at one one there) ∙ ap (λ (n : ℕ). one ∷ drop n rows) (sym (add-one at))

-- one row more was passed
pub passed : (rows : List Row) (from at count left more : ℕ) (one : Row) → slice_get rows at ≡ Some one
    → from + through_ends count (drop from rows) ≡ at + through_ends left (drop at rows)
    → ((behind : List Row) → through_ends left (one ∷ behind) ≡ through_ends more behind + 1)
    → from + through_ends count (drop from rows) ≡ at + 1 + through_ends more (drop (at + 1) rows)
passed rows from at count left more one there known step =
    let opened : through_ends left (drop at rows) ≡ through_ends more (drop (at + 1) rows) + 1 = ap (through_ends left) (behind_at rows at one there) ∙ step (drop (at + 1) rows) in
    omega (arith, known, opened)

no_rows : (left : ℕ) → through_ends left [] ≡ 0
no_rows zero = refl
no_rows (suc left) = refl

-- all rows were passed
pub all_passed : (rows : List Row) (at left : ℕ) → at ≡ length rows → at + through_ends left (drop at rows) ≡ length rows
all_passed rows at left end =
    ap (λ (n : ℕ). n + through_ends left (drop n rows)) end ∙ ap (λ (some : List Row). length rows + through_ends left some) (drop-length rows)
    ∙ ap (λ (n : ℕ). length rows + n) (no_rows left) ∙ add-zero (length rows)

-- the row at a place behind those between
pub one_between : (rows : List Row) (from at : ℕ) (one : Row) → from ≤ at → slice_get rows at ≡ Some one → between from (at + 1) rows ≡ between from at rows ++ one ∷ []
one_between rows from at one order there =
    between_more rows from at one order (slice_get_within rows at one there) ∙ ap (λ (r : Row). between from at rows ++ r ∷ []) (get_or_from_slice_get rows at one one there)
