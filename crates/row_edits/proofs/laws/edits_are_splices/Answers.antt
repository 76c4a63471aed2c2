use Rattle.row_edits.proofs.Splices.{row_spliced, note_spliced, range_spliced}
use Rattle.row_edits.proofs.laws.edits_are_splices.Goals as goal

pub returns : goal.returns
returns c = record { row = row_spliced; note = note_spliced; range = range_spliced }
