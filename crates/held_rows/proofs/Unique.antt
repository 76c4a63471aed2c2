-- The blocks of a container from one on are told by the rows from it on.
use Rattle.std.proofs.Common.{◌≡◌, ℕ, List, [], ◌∷◌, ◌++◌, length, take, drop, refl, ap, ap₂, sym, ◌∙◌, arith}
use Rattle.std.proofs.lemmas.List.{take_at, drop_at}
use Rattle.doc_model.specs.declared.block.Block.{Block}
use Rattle.node_array.specs.declared.row.Row.{Row}
use Rattle.node_array.specs.declared.row.Row.TheVariants as row
use Rattle.node_array.specs.Rows.{rows_of}
use Rattle.node_array.proofs.OneBody.{rows_known}
use Rattle.container_rows.specs.Standing.{AreBehindAll}
use Rattle.section_rows.specs.Starts.{closing}
use Rattle.section_rows.proofs.Flat.{all_close}

closing_none : (behind : List Row) → AreBehindAll behind → closing 0 behind ≡ 0
closing_none [] ends = refl
closing_none (row.End ∷ rows) ends = refl
closing_none (row.Start head ∷ rows) ends = absurd ends
closing_none (row.Par head items ∷ rows) ends = absurd ends
closing_none (row.NoteText ∷ rows) ends = absurd ends

-- their last row stands before the one that closes the container
pub closing_behind : (blocks : List Block) (behind : List Row) → AreBehindAll behind → closing 0 (rows_of blocks ++ behind) ≡ length (rows_of blocks)
closing_behind blocks behind ends = omega (arith, all_close blocks 0 behind, closing_none behind ends)

pub one_tail : (one other : List Block) (behind more : List Row) → AreBehindAll behind → AreBehindAll more → rows_of one ++ behind ≡ rows_of other ++ more → (one ≡ other) × (behind ≡ more)
one_tail one other behind more ends others e =
    let at : length (rows_of one) ≡ length (rows_of other) = sym (closing_behind one behind ends) ∙ (ap (closing 0) e ∙ closing_behind other more others) in
    let front : rows_of one ≡ rows_of other =
    sym (take_at (rows_of one) behind (length (rows_of one)) refl) ∙ (ap₂ (λ (n : ℕ) (rows : List Row). take n rows) at e ∙ take_at (rows_of other) more (length (rows_of other)) refl)
    in
    let back : behind ≡ more =
    sym (drop_at (rows_of one) behind (length (rows_of one)) refl) ∙ (ap₂ (λ (n : ℕ) (rows : List Row). drop n rows) at e ∙ drop_at (rows_of other) more (length (rows_of other)) refl)
    in
    (rows_known one other front, back)
