use Rattle.std.proofs.Common.{◌≡◌, ◌++◌, map, take, chars, string_bytes}
use Rattle.tree_text.specs.Writing.{content_text}
use Rattle.written_model.specs.Blocks.{block_element}
use Rattle.block_write.proofs.blocks.+push_block.Given as goal

abbrev pub invariant-push_items-loop-block : goal.invariant-push_items-loop-block
invariant-push_items-loop-block l = chars (string_bytes l.out) ≡ chars (string_bytes l.fn.out) ++ content_text (map block_element (take l.block-index l.block-items))
