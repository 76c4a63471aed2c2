-- There is one from here on where there is one at all.
use Rattle.std.proofs.Common.{◌≡◌, drop}
use Rattle.spelling_model.specs.Spelling.{is_there}
use Rattle.sheet_write.specs.Parts.{style_nodes}
use Rattle.sheet_save.proofs.parts.has_style.Given as goal

abbrev pub invariant-loop-at : goal.invariant-loop-at
invariant-loop-at l = is_there (style_nodes l.automatic (drop l.at l.tree.styles)) ≡ is_there (style_nodes l.automatic l.tree.styles)
