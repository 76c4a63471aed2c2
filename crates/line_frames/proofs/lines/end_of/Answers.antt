-- The end of the last unit.
use Rattle.std.proofs.Common.{arith}
use Rattle.line_model.specs.declared.unit.UnitClass.TheVariants.{Space}
use Rattle.line_frames.proofs.LinesLemmas.{end_of-last}
use Rattle.line_frames.proofs.lines.end_of.Goals as goal

pub returns-in-len1-up : goal.returns-in-len1-up
returns-in-len1-up c = end_of-last c.args.units.now 0 (record { from = 0; to = 0; columns = 0; class = Space }) (omega arith)
