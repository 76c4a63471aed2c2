use Rattle.back_text_places.proofs.Texts.{text_same}
use Rattle.back_text_places.proofs.laws.texts_need_no_places.Goals as goal

pub returns : goal.returns
returns c = text_same
