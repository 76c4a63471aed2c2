use Rattle.std.proofs.Common.{◌≡◌, take}
use Rattle.doc_model.proofs.copies.+copy_block.Given as goal

abbrev pub invariant-copy_blocks-loop-block : goal.invariant-copy_blocks-loop-block
invariant-copy_blocks-loop-block l = l.copies.items ≡ take l.block-index l.originals
