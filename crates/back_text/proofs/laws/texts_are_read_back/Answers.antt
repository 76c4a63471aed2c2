use Rattle.back_text.proofs.Whole.{text_back}
use Rattle.back_text.proofs.laws.texts_are_read_back.Goals as goal

pub returns : goal.returns
returns c = text_back
