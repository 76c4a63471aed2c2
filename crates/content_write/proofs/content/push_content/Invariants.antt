-- What is out and what is left to write is what was out and all.
use Rattle.std.proofs.Common.{◌≡◌, ◌++◌, length, chars, string_bytes}
use Rattle.tree_text.specs.Writing.{content_text}
use Rattle.written_model.specs.Content as tree
use Rattle.content_write.specs.Rest.{left_text, no_note}
use Rattle.content_write.specs.Content.{left_of}
use Rattle.content_write.proofs.content.push_content.Given as goal

abbrev pub invariant-notes : goal.invariant-notes
invariant-notes l = chars (string_bytes l.out) ++ left_text no_note (left_of l.content) ≡ chars (string_bytes l.fn.out) ++ content_text (tree.content no_note (l.first ++ l.second))

abbrev pub decreases-notes : goal.decreases-notes
decreases-notes l = length (left_of l.content).items
