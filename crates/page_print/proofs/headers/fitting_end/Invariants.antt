use Rattle.std.proofs.Common.{◌≡◌, length}
use Rattle.line_model.specs.Lines.{end_of}
use Rattle.page_print.specs.Headers.{fitting}
use Rattle.page_print.proofs.headers.fitting_end.Given as goal

abbrev pub invariant-units : goal.invariant-units
invariant-units l = end_of l.end (fitting l.room l.left) ≡ end_of 0 (fitting l.fn.columns l.fn.units)

abbrev pub decreases-units : goal.decreases-units
decreases-units l = length l.left
