use Rattle.std.proofs.lemmas.Str.{encodes-chars}
use Rattle.doc_model.proofs.texts.NameHash.hash.Goals as goal

pub returns : goal.returns
returns g c = rw (← c.self.view_is, ← c.as_str.ensures.value, encodes-chars _ c.as_str.utf8) c.hash.ensures
