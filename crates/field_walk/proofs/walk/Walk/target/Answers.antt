use Rattle.std.proofs.Common.{ap, arith, length}
use Rattle.field_model.specs.declared.gathered.Piece.{Piece}
use Rattle.field_walk.proofs.ReadLemmas.{target_is}
use Rattle.field_walk.proofs.walk.Walk.target.Goals as goal

pub returns : goal.returns
returns c = λ all h. target_is c.args.self.now all c.saturating_sub.result c.spot.result _ h (omega arith) (c.spot.ensures all h) (ap (length {A = Piece}) c.get.ensures)
