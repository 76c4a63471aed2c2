use Rattle.std.proofs.Common.{◌≡◌, ℕ, List, length, take}
use Rattle.std.specs.Prelude.{sum_by}
use Rattle.doc_model.specs.Plain.{plain_blocks}
use Rattle.edit_ops.proofs.draft.item_total.Given as goal

abbrev pub invariant-summing : goal.invariant-summing
invariant-summing l = (texts : List (List ℕ)) → l.document.body ≡ plain_blocks 1 texts → l.total ≡ sum_by (length {A = ℕ}) (take l.block-index texts)
