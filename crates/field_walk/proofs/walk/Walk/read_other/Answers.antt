use Rattle.field_walk.proofs.ReadLemmas.{other_read}
use Rattle.field_walk.proofs.walk.Walk.read_other.Goals as goal

pub returns : goal.returns
returns c = λ all h. rw c.in_ok-self.ensures (other_read c.args.self.now all h)
