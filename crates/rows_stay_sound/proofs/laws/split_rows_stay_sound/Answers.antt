use Rattle.rows_stay_sound.proofs.Halves.{split_kept}
use Rattle.rows_stay_sound.proofs.laws.split_rows_stay_sound.Goals as goal

pub returns : goal.returns
returns c = split_kept
