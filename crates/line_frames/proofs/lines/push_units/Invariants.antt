use Rattle.std.proofs.Common.{◌≡◌, ◌++◌, length}
use Rattle.line_model.specs.Lines.{lines_of_units}
use Rattle.line_frames.specs.Further.{further, EndShort}
use Rattle.line_frames.proofs.lines.push_units.Given as goal

abbrev pub decreases-lines : goal.decreases-lines
decreases-lines l = length l.rest

abbrev pub invariant-lines : goal.invariant-lines
invariant-lines l = record {
  so_far : l.lines ++ lines_of_units l.key l.place (further l.from l.rest) ≡ l.fn.lines ++ lines_of_units l.key l.from (further l.from l.units);
  short : EndShort l.from l.rest;
}
