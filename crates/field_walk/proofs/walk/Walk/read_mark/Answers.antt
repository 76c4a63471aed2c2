use Rattle.field_walk.proofs.ReadLemmas.{mark_read}
use Rattle.field_walk.proofs.walk.Walk.read_mark.Goals as goal

pub returns : goal.returns
returns c = λ all h. rw (c.in_ok-next.ensures, ← c.name_of.ensures) (mark_read c.args.self.now all c.push.new.self c.name_of.result.now h (rw (← c.target-target.ensures all h) c.in_ok-push.ensures.ok))
