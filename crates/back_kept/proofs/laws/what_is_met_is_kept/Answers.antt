use Rattle.back_kept.proofs.Everything.{all_kept}
use Rattle.back_kept.proofs.laws.what_is_met_is_kept.Goals as goal

pub returns : goal.returns
returns c = all_kept
