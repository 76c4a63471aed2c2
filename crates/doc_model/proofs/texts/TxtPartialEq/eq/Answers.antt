use Rattle.std.proofs.Common.{◌∙◌}
use Rattle.doc_model.proofs.SameText.{same_chars}
use Rattle.doc_model.proofs.texts.TxtPartialEq.eq.Goals as goal

pub returns : goal.returns
returns c = rw (← c.self.view_is, ← c.other.view_is, ← c.as_str.ensures.value, ← c.as_str-2.ensures.value) (c.eq.ensures ∙ same_chars _ _ c.as_str.utf8 c.as_str-2.utf8)
