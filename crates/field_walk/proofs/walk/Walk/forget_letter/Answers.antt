use Rattle.field_walk.proofs.walk.Walk.forget_letter.Goals as goal

pub returns : goal.returns
returns c = λ all h. c.forget_piece.ensures.letter c.args._letter all h
