-- What is out and what is left to write is what was out and all.
use Rattle.std.proofs.Common.{◌≡◌, ◌≤◌, ◌+◌, ◌++◌, length, chars, string_bytes}
use Rattle.tree_text.specs.Writing.{content_text}
use Rattle.written_model.specs.Content.{head_content}
use Rattle.head_write.specs.Items.{text_behind}
use Rattle.head_write.proofs.paragraphs.push_head_content.Given as goal

abbrev pub invariant-items : goal.invariant-items
invariant-items l = record {
  spelled : chars (string_bytes l.out) ++ text_behind l.waiting l.after_word l.left ≡ chars (string_bytes l.fn.out) ++ content_text (head_content l.whats);
  counted : l.waiting + length l.left ≤ length l.whats;
}

abbrev pub decreases-items : goal.decreases-items
decreases-items l = length l.left
