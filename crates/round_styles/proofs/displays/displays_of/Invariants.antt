use Rattle.std.proofs.Common.{◌≡◌, take}
use Rattle.std.specs.Prelude.{filter_map}
use Rattle.key_parts.specs.Displays.{display_of}
use Rattle.round_styles.proofs.displays.displays_of.Given as goal

abbrev pub invariant-loop-at : goal.invariant-loop-at
invariant-loop-at l = l.displays ≡ filter_map (display_of l.styles.styles) (take l.at l.styles.styles)
