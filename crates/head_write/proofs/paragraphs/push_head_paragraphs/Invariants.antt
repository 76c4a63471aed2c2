-- What is out and those that are left are what was out and all of them.
use Rattle.std.proofs.Common.{◌≡◌, ◌++◌, map, length, chars, string_bytes}
use Rattle.tree_text.specs.Writing.{content_text}
use Rattle.written_model.specs.Styles.{head_paragraph}
use Rattle.head_write.proofs.paragraphs.push_head_paragraphs.Given as goal

abbrev pub invariant-paragraphs : goal.invariant-paragraphs
invariant-paragraphs l =
    chars (string_bytes l.out) ++ content_text (map head_paragraph l.left) ≡ chars (string_bytes l.fn.out) ++ content_text (map head_paragraph l.pars)

abbrev pub decreases-paragraphs : goal.decreases-paragraphs
decreases-paragraphs l = length l.left
