-- What the container of a row's paragraph holds, told from the rows.
use Rattle.std.proofs.Common.{◌≡◌, ℕ, ◌+◌, ◌||◌, ◌&&◌, Bool, not, cond, List, [], ◌∷◌, ◌++◌, map, take, Option, None, Some, refl, ap, ap₂, sym, ◌∙◌}
use Rattle.std.specs.Prelude.{option_map, is_some}
use Rattle.std.proofs.lemmas.List.{take-map}
use Rattle.std.specs.List.{list_any, list_all, position_or_len}
use Rattle.doc_model.specs.declared.block.Block.{Block}
use Rattle.doc_model.specs.declared.paragraph.Par.{Par}
use Rattle.doc_model.specs.declared.paragraph.ParHead.{ParHead}
use Rattle.doc_model.specs.declared.paragraph.ParId.{ParId}
use Rattle.doc_model.specs.declared.paragraph.Item.{Item}
use Rattle.doc_model.specs.declared.document.Document.{Document}
use Rattle.doc_model.specs.Reading.{number_of}
use Rattle.edit_rules.specs.Places.{Held, held_from, holds, is_held, through_first, are_in_order}
use Rattle.edit_rules.specs.Refusals.{begins_with_two, are_paragraphs_in_order}
use Rattle.node_array.specs.declared.row.Row.{Row}
use Rattle.node_array.specs.declared.row.Row.TheVariants as row
use Rattle.node_array.specs.Rows.{rows_of}
use Rattle.container_rows.specs.Standing.{IsApart}
use Rattle.held_rows.specs.HeldFrom.{held_of, IsHeldFrom}
use Rattle.held_rows.proofs.HeldFrom.{held_from_row}
use Rattle.level_rows.specs.Level.{held_in, is_number, begin_two}
use Rattle.level_rows.proofs.Level.{par_known, number_held, blocks_held}

numbers_in : (blocks : List Block) → map (option_map number_of) (map held_of blocks) ≡ map number_held blocks
numbers_in [] = refl
numbers_in (block ∷ blocks) = ap (λ (rest : List (Option ℕ)). number_held block ∷ rest) (numbers_in blocks)

pub held_told : (doc : Document) (before : List Row) (head : ParHead) (items : List Item) (rest : List Row) → IsApart doc → rows_of doc.body ≡ before ++ row.Par head items ∷ rest
    → map (option_map number_of) (held_from doc head.id) ≡ held_in 0 (row.Par head items ∷ rest)
held_told doc before head items rest apart is =
    let it : IsHeldFrom doc head.id (row.Par head items ∷ rest) = held_from_row doc before head items rest apart is in
    ap (map (option_map number_of)) it.held
    ∙ ap (λ (more : List (Option ℕ)). Some (number_of it.par) ∷ more) (numbers_in it.blocks ∙ sym (blocks_held it.blocks it.behind it.ends))
    ∙ sym (ap (held_in 0) it.rows ∙ (par_known it.par).here (rows_of it.blocks ++ it.behind))

one_test : (number : ℕ) (held : Option Par) → is_held number held ≡ is_number number (option_map number_of held)
one_test number None = refl
one_test number (Some par) = refl

tests : (number : ℕ) (held : Held) → holds number held ≡ list_any (is_number number) (map (option_map number_of) held)
tests number [] = refl
tests number (one ∷ held) = ap₂ (λ (a b : Bool). a || b) (one_test number one) (tests number held)

pub order_told : (doc : Document) (before : List Row) (head : ParHead) (items : List Item) (rest : List Row) (last : ParId) → IsApart doc → rows_of doc.body ≡ before ++ row.Par head items ∷ rest
    → are_in_order doc head.id last ≡ list_any (is_number last.0) (held_in 0 (row.Par head items ∷ rest))
order_told doc before head items rest last apart is =
    tests last.0 (held_from doc head.id) ∙ ap (list_any (is_number last.0)) (held_told doc before head items rest apart is)

-- what stands together
two_told : (held : Held) → begins_with_two held ≡ begin_two (map (option_map number_of) held)
two_told [] = refl
two_told (None ∷ held) = refl
two_told (Some par ∷ []) = refl
two_told (Some par ∷ None ∷ held) = refl
two_told (Some par ∷ Some other ∷ held) = refl

pub join_told : (doc : Document) (before : List Row) (head : ParHead) (items : List Item) (rest : List Row) → IsApart doc → rows_of doc.body ≡ before ++ row.Par head items ∷ rest
    → begins_with_two (held_from doc head.id) ≡ begin_two (held_in 0 (row.Par head items ∷ rest))
join_told doc before head items rest apart is = two_told (held_from doc head.id) ∙ ap begin_two (held_told doc before head items rest apart is)

same_place : (number : ℕ) (held : Held) → position_or_len (is_held number) held ≡ position_or_len (is_number number) (map (option_map number_of) held)
same_place number [] = refl
same_place number (one ∷ held) = ap₂ (λ (b : Bool) (n : ℕ). cond (not b) (1 + n) 0) (one_test number one) (same_place number held)

one_some : (held : Option Par) → is_some held ≡ is_some (option_map number_of held)
one_some None = refl
one_some (Some par) = refl

all_some : (held : Held) → list_all is_some held ≡ list_all is_some (map (option_map number_of) held)
all_some [] = refl
all_some (one ∷ held) = ap₂ (λ (a b : Bool). a && b) (one_some one) (all_some held)

through_told : (number : ℕ) (held : Held) → list_all is_some (through_first (is_held number) held) ≡ list_all is_some (through_first (is_number number) (map (option_map number_of) held))
through_told number held =
    all_some (through_first (is_held number) held) ∙ ap (list_all is_some) (sym (take-map (option_map number_of) (position_or_len (is_held number) held + 1) held))
    ∙ ap (λ (n : ℕ). list_all is_some (take (n + 1) (map (option_map number_of) held))) (same_place number held)

pub together_told : (doc : Document) (before : List Row) (head : ParHead) (items : List Item) (rest : List Row) (last : ParId) → IsApart doc → rows_of doc.body ≡ before ++ row.Par head items ∷ rest
    → are_paragraphs_in_order doc head.id last
    ≡ (list_any (is_number last.0) (held_in 0 (row.Par head items ∷ rest)) && list_all is_some (through_first (is_number last.0) (held_in 0 (row.Par head items ∷ rest))))
together_told doc before head items rest last apart is =
    ap₂ (λ (a b : Bool). a && b) (order_told doc before head items rest last apart is)
    (through_told last.0 (held_from doc head.id) ∙ ap (λ (held : List (Option ℕ)). list_all is_some (through_first (is_number last.0) held)) (held_told doc before head items rest apart is))
