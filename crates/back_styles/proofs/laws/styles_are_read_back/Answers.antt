use Rattle.back_styles.proofs.Styles.{style_back}
use Rattle.back_styles.proofs.laws.styles_are_read_back.Goals as goal

pub returns : goal.returns
returns c = style_back
