-- The operations of a group one after another.
use Rattle.std.proofs.Common.{◌≡◌, ℕ, ◌+◌, ◌≤◌, ◌<◌, Bool, List, ◌∷◌, length, drop, get_or, ap, sym, ◌∙◌, Option, Some, None, Ok, Err}
use Rattle.std.specs.Prelude.{if◌then◌else◌}
use Rattle.std.specs.Option.{option_map_or}
use Rattle.std.proofs.lemmas.Bool.{le-ltb, lt-ltb}
use Rattle.std.proofs.lemmas.List.{drop_more, drop_all}
use Rattle.doc_model.specs.declared.edit.EditOp.{EditOp}
use Rattle.doc_model.specs.declared.refusal.Refusal.{Refusal}
use Rattle.doc_model.specs.declared.refusal.Refusal.TheVariants as refusal
use Rattle.doc_model.specs.declared.refusal.Limit.TheVariants.{Operations}
use Rattle.edit_model.specs.Edit.{Edited, edited, first_refusal, edited_by, edited_by_group}

one_of : (old : Edited) (index : ℕ) (op : EditOp) (ops : List EditOp) (why : Option Refusal) → first_refusal old op ≡ why
    → edited_by old index (op ∷ ops) ≡ option_map_or (λ why. Err (index, why)) why (edited_by (edited old op) (index + 1) ops)
one_of old index op ops why e = ap (λ (found : Option Refusal). option_map_or (λ why. Err (index, why)) found (edited_by (edited old op) (index + 1) ops)) e

left_at : (ops : List EditOp) (place : ℕ) (op : EditOp) → place < length ops → op ≡ get_or ops place op → drop place ops ≡ op ∷ drop (place + 1) ops
left_at ops place op within is = drop_more ops place op within ∙ ap (λ (first : EditOp). first ∷ drop (place + 1) ops) (sym is)

-- what is left to do from an operation on
pub run-made : (old new : Edited) (ops : List EditOp) (place : ℕ) (op : EditOp) → place < length ops → op ≡ get_or ops place op → first_refusal old op ≡ None → edited old op ≡ new
    → edited_by old place (drop place ops) ≡ edited_by new (place + 1) (drop (place + 1) ops)
run-made old new ops place op within is none to =
    ap (edited_by old place) (left_at ops place op within is)
    ∙ one_of old place op (drop (place + 1) ops) None none
    ∙ ap (λ (made : Edited). edited_by made (place + 1) (drop (place + 1) ops)) to

pub run-refused : (old : Edited) (ops : List EditOp) (place : ℕ) (op : EditOp) (why : Refusal) → place < length ops → op ≡ get_or ops place op → first_refusal old op ≡ Some why
    → edited_by old place (drop place ops) ≡ Err (place, why)
run-refused old ops place op why within is refused = ap (edited_by old place) (left_at ops place op within is) ∙ one_of old place op (drop (place + 1) ops) (Some why) refused

pub run-done : (old : Edited) (ops : List EditOp) (place : ℕ) → length ops ≤ place → edited_by old place (drop place ops) ≡ Ok old
run-done old ops place all = ap (edited_by old place) (drop_all place ops all)

-- a group of too many operations, and one of not too many
pub group-many : (old : Edited) (ops : List EditOp) → 1024 < length ops → edited_by_group old ops ≡ Err (1024, refusal.Limit Operations 1024)
group-many old ops many = ap (λ (b : Bool). if b then Err (1024, refusal.Limit Operations 1024) else edited_by old 0 ops) (lt-ltb 1024 (length ops) many)

pub group-few : (old : Edited) (ops : List EditOp) → length ops ≤ 1024 → edited_by_group old ops ≡ edited_by old 0 ops
group-few old ops few = ap (λ (b : Bool). if b then Err (1024, refusal.Limit Operations 1024) else edited_by old 0 ops) (le-ltb 1024 (length ops) few)
