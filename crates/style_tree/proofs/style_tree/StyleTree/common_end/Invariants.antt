use Rattle.std.proofs.Common.{◌≡◌, ◌≤◌, length, take}
use Rattle.style_model.specs.Changes.{common_end}
use Rattle.style_tree.proofs.style_tree.StyleTree.common_end.Given as goal

abbrev pub invariant-styles : goal.invariant-styles
invariant-styles l = (l.at ≤ length l.fn.self.styles) × (common_end l.fn.self.styles ≡ common_end (take l.at l.fn.self.styles))

abbrev pub decreases-styles : goal.decreases-styles
decreases-styles l = l.at
