use Rattle.back_styles.proofs.Styles.{default_back}
use Rattle.back_styles.proofs.laws.default_styles_are_read_back.Goals as goal

pub returns : goal.returns
returns c = default_back
