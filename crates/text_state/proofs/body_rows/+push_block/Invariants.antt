use Rattle.std.proofs.Common.{◌≡◌, ◌++◌, take}
use Rattle.std.specs.List.{flat_map}
use Rattle.node_array.specs.Rows.{block_rows}
use Rattle.text_state.proofs.body_rows.+push_block.Given as goal

abbrev pub invariant-push_blocks-loop-block : goal.invariant-push_blocks-loop-block
invariant-push_blocks-loop-block l = l.rows.items ≡ l.fn.rows.items ++ flat_map block_rows (take l.block-index l.block-items)
