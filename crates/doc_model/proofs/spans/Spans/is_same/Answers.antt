use Rattle.doc_model.proofs.SameText.{same_names}
use Rattle.doc_model.proofs.spans.Spans.is_same.Goals as goal

pub returns : goal.returns
returns c = rw c.eq.ensures (same_names _ _)
