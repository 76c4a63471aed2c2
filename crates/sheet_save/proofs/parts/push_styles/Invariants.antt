-- What is out and the styles from here on are what was out and all of them.
use Rattle.std.proofs.Common.{◌≡◌, ◌++◌, drop, chars, string_bytes}
use Rattle.tree_text.specs.Writing.{content_text}
use Rattle.sheet_write.specs.Parts.{style_nodes}
use Rattle.sheet_save.proofs.parts.push_styles.Given as goal

abbrev pub invariant-loop-at : goal.invariant-loop-at
invariant-loop-at l =
    chars (string_bytes l.out) ++ content_text (style_nodes l.automatic (drop l.at l.tree.styles)) ≡ chars (string_bytes l.fn.out) ++ content_text (style_nodes l.automatic l.tree.styles)
