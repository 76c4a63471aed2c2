use Rattle.std.proofs.Common.{◌≡◌, length}
use Rattle.key_parts.specs.Shows.{is_shown_in}
use Rattle.key_parts.proofs.shown.is_shown_in.Given as goal

abbrev pub invariant-spans : goal.invariant-spans
invariant-spans l = is_shown_in l.displays l.shown l.left ≡ is_shown_in l.displays l.otherwise l.spans

abbrev pub decreases-spans : goal.decreases-spans
decreases-spans l = length l.left
