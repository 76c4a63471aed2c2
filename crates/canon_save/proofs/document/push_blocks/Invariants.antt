use Rattle.std.proofs.Common.{◌≡◌, ◌++◌, take}
use Rattle.std.specs.Prelude.{string_bytes}
use Rattle.std.specs.List.{flat_map}
use Rattle.spelling_model.specs.Spelling.{block_bytes}
use Rattle.canon_save.proofs.document.push_blocks.Given as goal

abbrev pub invariant-loop-block : goal.invariant-loop-block
invariant-loop-block l = string_bytes l.out ≡ string_bytes l.fn.out ++ flat_map block_bytes (take l.block-index l.blocks)
