use Rattle.std.proofs.Common.{◌≡◌, take}
use Rattle.std.specs.List.{flat_map}
use Rattle.node_array.specs.Rows.{block_rows}
use Rattle.text_state.proofs.body_rows.rows_of.Given as goal

abbrev pub invariant-loop-block : goal.invariant-loop-block
invariant-loop-block l = l.rows.items ≡ flat_map block_rows (take l.block-index l.body)
