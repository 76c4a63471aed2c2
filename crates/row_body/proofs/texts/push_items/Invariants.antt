use Rattle.row_body.proofs.Pieces.{Copied}
use Rattle.row_body.proofs.texts.push_items.Given as goal

abbrev pub invariant-loop-item : goal.invariant-loop-item
invariant-loop-item l = Copied l.fn.copies.items l.copies.items l.items l.fn.texts l.texts l.item-index
