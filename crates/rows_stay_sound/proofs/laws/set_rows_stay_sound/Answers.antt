use Rattle.rows_stay_sound.proofs.Sections.{set_kept}
use Rattle.rows_stay_sound.proofs.laws.set_rows_stay_sound.Goals as goal

pub returns : goal.returns
returns c = set_kept
