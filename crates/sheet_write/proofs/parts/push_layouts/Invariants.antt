-- What is out and those that are left are what was out and all of them.
use Rattle.std.proofs.Common.{◌≡◌, ◌++◌, map, length, chars, string_bytes}
use Rattle.tree_text.specs.Writing.{content_text}
use Rattle.written_model.specs.Styles.{layout_element}
use Rattle.sheet_write.proofs.parts.push_layouts.Given as goal

abbrev pub invariant-layouts : goal.invariant-layouts
invariant-layouts l =
    chars (string_bytes l.out) ++ content_text (map layout_element l.left) ≡ chars (string_bytes l.fn.out) ++ content_text (map layout_element l.layouts)

abbrev pub decreases-layouts : goal.decreases-layouts
decreases-layouts l = length l.left
