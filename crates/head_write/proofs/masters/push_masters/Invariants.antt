-- What is out and those that are left are what was out and all of them.
use Rattle.std.proofs.Common.{◌≡◌, ◌++◌, map, length, chars, string_bytes}
use Rattle.tree_text.specs.Writing.{content_text}
use Rattle.written_model.specs.Styles.{master_element}
use Rattle.head_write.proofs.masters.push_masters.Given as goal

abbrev pub invariant-masters : goal.invariant-masters
invariant-masters l =
    chars (string_bytes l.out) ++ content_text (map master_element l.left) ≡ chars (string_bytes l.fn.out) ++ content_text (map master_element l.masters)

abbrev pub decreases-masters : goal.decreases-masters
decreases-masters l = length l.left
