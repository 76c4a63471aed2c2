use Rattle.std.proofs.Common.{◌≡◌, take}
use Rattle.text_state.proofs.styles.styles_of.Given as goal

abbrev pub invariant-loop-style : goal.invariant-loop-style
invariant-loop-style l = l.tree ≡ record { defaults = l.defaults; styles = take l.style-index l.styles }
