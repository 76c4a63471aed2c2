use Rattle.std.proofs.Common.{◌≡◌, ◌++◌, map, take}
use Rattle.std.specs.List.{flat_map}
use Rattle.paragraph_faults.specs.Counts.{counted_of, block_counts}
use Rattle.paragraph_faults.proofs.counted.+push_block.Given as goal

abbrev pub invariant-push_blocks-loop-block : goal.invariant-push_blocks-loop-block
invariant-push_blocks-loop-block l = map counted_of l.counted.items ≡ map counted_of l.fn.counted.items ++ flat_map block_counts (take l.block-index l.blocks)
