use Rattle.field_walk.proofs.ReadLemmas.{asked_read}
use Rattle.field_walk.proofs.walk.Walk.read_get.Goals as goal

pub returns : goal.returns
returns c = λ all h. let s = c.spot.ensures all h in rw c.in_ok-next.ensures (asked_read c.args.self.now all c.push.new.self c.args.name.now h (rw (← s, ← c.in_ok-copy.ensures) c.in_ok-push.ensures.ok))
