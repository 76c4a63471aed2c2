use Rattle.back_met.proofs.Readable.{text_met}
use Rattle.back_met.proofs.laws.texts_are_met.Goals as goal

pub returns : goal.returns
returns c = text_met
