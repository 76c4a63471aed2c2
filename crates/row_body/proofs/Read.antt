-- Rows that are read from the last to the first.
use Rattle.std.proofs.Common.{◌≡◌, ℕ, ◌+◌, ◌-◌, ◌<◌, ◌≤◌, List, drop, ap, sym, ◌∙◌, arith, Some}
use Rattle.std.specs.Prelude.{slice_get}
use Rattle.std.proofs.lemmas.List.{drop_more}
use Rattle.std.proofs.lemmas.Option.{get_or_from_slice_get, slice_get_within}
use Rattle.doc_model.specs.declared.block.Block.{Block}
use Rattle.node_array.specs.declared.row.Row.{Row}
use Rattle.node_array.specs.Rows.{rows_of}
use Rattle.node_array.specs.Body.{Level, read_row, levels_of, blocks_of}
use Rattle.node_array.proofs.OneBody.{body_known}

-- one more row in front
pub read_more : (rows : List Row) (at : ℕ) (row : Row) (levels more : List Level) → 0 < at → slice_get rows (at - 1) ≡ Some row → levels ≡ levels_of (drop at rows)
    → more ≡ read_row row levels → more ≡ levels_of (drop (at - 1) rows)
read_more rows at row levels more some here known read =
    let down : (at - 1) + 1 ≡ at = omega arith in
    read ∙ ap (read_row row) (known ∙ ap (λ (n : ℕ). levels_of (drop n rows)) (sym down))
    ∙ ap (λ (one : Row). read_row one (levels_of (drop ((at - 1) + 1) rows))) (sym (get_or_from_slice_get rows (at - 1) row row here))
    ∙ ap levels_of (sym (drop_more rows (at - 1) row (slice_get_within rows (at - 1) row here)))

-- all rows
pub read_all : (body : List Block) (at : ℕ) (levels : List Level) → at ≤ 0 → levels ≡ levels_of (drop at (rows_of body)) → blocks_of levels ≡ body
read_all body at levels none known =
    let start : at ≡ 0 = omega arith in
    ap blocks_of (known ∙ ap (λ (n : ℕ). levels_of (drop n (rows_of body))) start) ∙ body_known body
