-- What is left decides.
use Rattle.std.proofs.Common.{◌≡◌, length}
use Rattle.spelling_model.specs.Spelling.{is_there, without_marks}
use Rattle.content_write.proofs.items_left.has_more.Given as goal

abbrev pub invariant-marks : goal.invariant-marks
invariant-marks l = is_there (without_marks l.left) ≡ is_there (without_marks l.items)

abbrev pub decreases-marks : goal.decreases-marks
decreases-marks l = length l.left
