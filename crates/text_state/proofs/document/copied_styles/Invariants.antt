use Rattle.std.proofs.Common.{◌≡◌, take}
use Rattle.text_state.proofs.document.copied_styles.Given as goal

abbrev pub invariant-loop-at : goal.invariant-loop-at
invariant-loop-at l = l.styles.items ≡ take l.at l.tree.styles
