-- Those that are left have another one where all have.
use Rattle.std.proofs.Common.{◌≡◌, length}
use Rattle.head_write.specs.Items.{has_other}
use Rattle.head_write.proofs.items.has_other.Given as goal

abbrev pub invariant-marks : goal.invariant-marks
invariant-marks l = has_other l.left ≡ has_other l.whats

abbrev pub decreases-marks : goal.decreases-marks
decreases-marks l = length l.left
