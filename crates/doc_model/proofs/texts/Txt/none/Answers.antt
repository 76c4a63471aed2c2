use Rattle.std.proofs.lemmas.Str.{chars-nil}
use Rattle.doc_model.proofs.texts.Txt.none.Goals as goal

pub returns : goal.returns
returns c = rw c.new.ensures.bytes chars-nil
