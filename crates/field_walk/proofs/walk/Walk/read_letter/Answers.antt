use Rattle.field_walk.proofs.ReadLemmas.{letter_read}
use Rattle.field_walk.proofs.walk.Walk.read_letter.Goals as goal

pub returns : goal.returns
returns c = λ all h. rw c.in_ok-next.ensures (letter_read c.args.self.now all c.push.new.self c.args.letter h c.in_ok-push.ensures.ok)
