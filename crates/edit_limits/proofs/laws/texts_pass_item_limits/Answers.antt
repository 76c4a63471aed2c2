use Rattle.edit_limits.proofs.Texts.{text_passes}
use Rattle.edit_limits.proofs.laws.texts_pass_item_limits.Goals as goal

pub returns : goal.returns
returns c = text_passes
