use Rattle.rows_stay_sound.proofs.Unwrapped.{unwrap_kept}
use Rattle.rows_stay_sound.proofs.laws.unwrapped_rows_stay_sound.Goals as goal

pub returns : goal.returns
returns c = unwrap_kept
