use Rattle.rows_stay_sound.proofs.Sections.{wrap_kept}
use Rattle.rows_stay_sound.proofs.laws.wrapped_rows_stay_sound.Goals as goal

pub returns : goal.returns
returns c = wrap_kept
