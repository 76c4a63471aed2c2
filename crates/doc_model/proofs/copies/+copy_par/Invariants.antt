use Rattle.std.proofs.Common.{◌≡◌, take}
use Rattle.doc_model.proofs.copies.+copy_par.Given as goal

abbrev pub invariant-copy_items-loop-item : goal.invariant-copy_items-loop-item
invariant-copy_items-loop-item l = l.copies.items ≡ take l.item-index l.originals

abbrev pub invariant-copy_pars-loop-par : goal.invariant-copy_pars-loop-par
invariant-copy_pars-loop-par l = l.copies.items ≡ take l.par-index l.originals
