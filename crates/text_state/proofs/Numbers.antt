-- The greatest number of some rows and one more.
use Rattle.std.proofs.Common.{◌≡◌, ◌<◌, ℕ, ◌+◌, List, ◌∷◌, [], ◌++◌, take, length, get_or, slice_get, Some, sym, ap, ◌∙◌, append-nil}
use Rattle.std.specs.Prelude.{fold, max}
use Rattle.std.specs.List.{flat_map}
use Rattle.std.proofs.lemmas.List.{take_more}
use Rattle.std.proofs.lemmas.List.Sums.{fold-append}
use Rattle.std.proofs.lemmas.List.Concat.{flat_map-append}
use Rattle.std.proofs.lemmas.Option.{get_or_from_slice_get}
use Rattle.doc_model.specs.Limits.{greatest}
use Rattle.node_array.specs.declared.row.Row.{Row}
use Rattle.paragraph_rows.specs.Standing.{number_in}

one_row_more : (rows : List Row) (at : ℕ) (row : Row) → at < length rows → slice_get rows at ≡ Some row
    → flat_map number_in (take (at + 1) rows) ≡ flat_map number_in (take at rows) ++ number_in row
one_row_more rows at row within here =
    let before : List ℕ = flat_map number_in (take at rows) in
    ap (flat_map number_in) (take_more rows at row within) ∙ flat_map-append number_in (take at rows) (get_or rows at row ∷ [])
    ∙ ap (λ (one : List ℕ). before ++ one) (append-nil (number_in (get_or rows at row))) ∙ ap (λ (r : Row). before ++ number_in r) (get_or_from_slice_get rows at row row here)

pub greatest_more : (rows : List Row) (at : ℕ) (row : Row) (before after : ℕ) → at < length rows → slice_get rows at ≡ Some row
    → before ≡ greatest (flat_map number_in (take at rows)) → after ≡ fold max before (number_in row) → after ≡ greatest (flat_map number_in (take (at + 1) rows))
greatest_more rows at row before after within here was is =
    is ∙ ap (λ (number : ℕ). fold max number (number_in row)) was ∙ sym (fold-append max 0 (flat_map number_in (take at rows)) (number_in row))
    ∙ ap greatest (sym (one_row_more rows at row within here))
