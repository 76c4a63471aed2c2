use Rattle.std.proofs.Common.{◌≡◌, ◌++◌, map, take, chars, string_bytes}
use Rattle.tree_text.specs.Writing.{content_text}
use Rattle.block_write.specs.Declarations.{sequence_element}
use Rattle.block_write.proofs.declarations.push_each_sequence.Given as goal

abbrev pub invariant-loop-name : goal.invariant-loop-name
invariant-loop-name l = chars (string_bytes l.out) ≡ chars (string_bytes l.fn.out) ++ content_text (map sequence_element (take l.name-index l.names))
