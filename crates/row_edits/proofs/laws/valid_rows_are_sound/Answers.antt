use Rattle.row_edits.proofs.Kept.{valid_sound}
use Rattle.row_edits.proofs.laws.valid_rows_are_sound.Goals as goal

pub returns : goal.returns
returns c = valid_sound
