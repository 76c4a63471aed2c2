use Rattle.std.proofs.Common.{◌≡◌, ◌≤◌, ◌+◌, ◌++◌, length}
use Rattle.std.specs.Prelude.{string_bytes}
use Rattle.spelling_model.specs.Spelling.{content_bytes}
use Rattle.spelling_model.proofs.Content.{content}
use Rattle.canon_save.proofs.paragraph.push_items.Given as goal

abbrev pub invariant-items : goal.invariant-items
invariant-items l = record {
  spelled : string_bytes l.out ++ content l.waiting l.after_word l.left ≡ string_bytes l.fn.out ++ content_bytes l.items;
  counted : l.waiting + length l.left ≤ length l.items;
}

abbrev pub decreases-items : goal.decreases-items
decreases-items l = length l.left
