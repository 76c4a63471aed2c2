use Rattle.std.proofs.Common.{ap, length, arith}
use Rattle.field_model.specs.declared.gathered.Piece.{Piece}
use Rattle.field_walk.proofs.ReadLemmas.{par_place_is}
use Rattle.field_walk.proofs.walk.Walk.par_place.Goals as goal

pub returns : goal.returns
returns c = λ all h. rw (← c.in_ok-copy.ensures) (par_place_is c.args.self.now all c.args.place c.args.head.now c.in_ok-copy.field-0 c.is_in_note-in_note.result c.place_anchor.result (length c.get-pieces.result.now) c.in_ok-one_more.field-0 c.len.result c.chapters_with.result h c.is_in_note-in_note.ensures (c.place_anchor.ensures all h) (ap (length {A = Piece}) c.get-pieces.ensures) c.in_ok-one_more.ensures (omega arith) c.chapters_with.ensures)
