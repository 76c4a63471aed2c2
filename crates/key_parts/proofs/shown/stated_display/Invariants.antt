use Rattle.std.proofs.Common.{◌≡◌, length}
use Rattle.key_parts.specs.Shows.{stated_display}
use Rattle.key_parts.proofs.shown.stated_display.Given as goal

abbrev pub invariant-displays : goal.invariant-displays
invariant-displays l = stated_display l.left l.style ≡ stated_display l.displays l.style

abbrev pub decreases-displays : goal.decreases-displays
decreases-displays l = length l.left
