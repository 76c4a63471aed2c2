-- What is out and the styles that are left are what was out and all of them.
use Rattle.std.proofs.Common.{◌≡◌, ◌++◌, length, chars, string_bytes}
use Rattle.tree_text.specs.Writing.{content_text}
use Rattle.sheet_write.specs.Parts.{style_nodes}
use Rattle.sheet_write.proofs.parts.push_styles.Given as goal

abbrev pub invariant-styles : goal.invariant-styles
invariant-styles l =
    chars (string_bytes l.out) ++ content_text (style_nodes l.automatic l.left) ≡ chars (string_bytes l.fn.out) ++ content_text (style_nodes l.automatic l.styles)

abbrev pub decreases-styles : goal.decreases-styles
decreases-styles l = length l.left
