use Rattle.field_walk.proofs.TextLemmas.{cut_twice}
use Rattle.field_walk.proofs.walk.Walk.push_piece.Goals as goal

pub returns-in_ok-push_counted-in-Number : goal.returns-in_ok-push_counted-in-Number
returns-in_ok-push_counted-in-Number c = λ all h. rw c.in-Number.is (cut_twice c.args.out.now c.push_counted.new.out _ (c.in_ok-push_counted-in-Number.ensures all h))

pub returns-in_ok-push_value-in-Variable : goal.returns-in_ok-push_value-in-Variable
returns-in_ok-push_value-in-Variable c = λ all h. rw c.in-Variable.is (cut_twice c.args.out.now c.push_value.new.out _ (c.in_ok-push_value-in-Variable.ensures all h))
