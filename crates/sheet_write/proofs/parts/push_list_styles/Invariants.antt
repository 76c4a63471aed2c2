-- What is out and those that are left are what was out and all of them.
use Rattle.std.proofs.Common.{◌≡◌, ◌++◌, map, length, chars, string_bytes}
use Rattle.tree_text.specs.Writing.{content_text}
use Rattle.written_model.specs.Styles.{list_style_element}
use Rattle.sheet_write.proofs.parts.push_list_styles.Given as goal

abbrev pub invariant-lists : goal.invariant-lists
invariant-lists l =
    chars (string_bytes l.out) ++ content_text (map list_style_element l.left) ≡ chars (string_bytes l.fn.out) ++ content_text (map list_style_element l.lists)

abbrev pub decreases-lists : goal.decreases-lists
decreases-lists l = length l.left
