use Rattle.rows_stay_sound.proofs.Halves.{join_kept}
use Rattle.rows_stay_sound.proofs.laws.joined_rows_stay_sound.Goals as goal

pub returns : goal.returns
returns c = join_kept
