use Rattle.std.proofs.Common.{◌*◌, ◌+◌, ◌≤◌, length, map}
use Rattle.std.specs.List.{AllByRecursion as Each}
use Rattle.doc_model.specs.declared.block.Block.{Block, roll-Block}
use Rattle.doc_model.specs.declared.block.Block.TheOpen.{Block-F}
use Rattle.doc_model.specs.Alike.{in_block}
use Rattle.doc_model.specs.Limits.{greatest}
use Rattle.doc_model.specs.Parts.{depth_of}
use Rattle.load_model.specs.Loaded.{numbered}
use Rattle.doc_numbers.specs.Numbering.{block_pars}
use Rattle.doc_numbers.proofs.NumberLemmas.{Goes}
use Rattle.doc_numbers.proofs.blocks.+number_block.Given as goal

abbrev pub decreases-number_block : goal.decreases-number_block
decreases-number_block l = 3 * depth_of l.block + 2

abbrev pub decreases-number_section : goal.decreases-number_section
decreases-number_section l = 3 * depth_of (roll-Block (Block-F.Section l.section)) + 1

abbrev pub decreases-number_blocks : goal.decreases-number_blocks
decreases-number_blocks l = 3 * greatest (map depth_of l.blocks) + 3

abbrev pub invariant-number_blocks-left : goal.invariant-number_blocks-left
invariant-number_blocks-left l = record {
  goes : Goes Block block_pars (λ numbers. in_block (numbered numbers)) l.fn.blocks l.done.items l.left l.fn.last l.last;
  shallow : Each (λ block. depth_of block ≤ greatest (map depth_of l.fn.blocks)) l.left;
}

abbrev pub decreases-number_blocks-left : goal.decreases-number_blocks-left
decreases-number_blocks-left l = length l.left
