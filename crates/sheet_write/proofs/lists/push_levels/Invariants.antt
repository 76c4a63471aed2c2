-- What is out and the levels that are left are what was out and all of them.
use Rattle.std.proofs.Common.{◌≡◌, ◌++◌, map, length, chars, string_bytes}
use Rattle.tree_text.specs.Writing.{content_text}
use Rattle.written_model.specs.Styles.{level_element}
use Rattle.sheet_write.proofs.lists.push_levels.Given as goal

abbrev pub invariant-levels : goal.invariant-levels
invariant-levels l =
    chars (string_bytes l.out) ++ content_text (map level_element l.left) ≡ chars (string_bytes l.fn.out) ++ content_text (map level_element l.levels)

abbrev pub decreases-levels : goal.decreases-levels
decreases-levels l = length l.left
