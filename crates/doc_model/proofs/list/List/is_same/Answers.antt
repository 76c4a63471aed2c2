use Rattle.std.specs.Cmp.Lexicographic.{pointwise_decides}
use Rattle.doc_model.proofs.list.List.is_same.Goals as goal

pub returns : goal.returns
returns g c = rw c.eq.ensures (pointwise_decides c.requires _ _)
