use Rattle.std.proofs.Common.{refl}
use Rattle.std.specs.Str.{bytes_eq}
use Rattle.field_walk.proofs.ReadLemmas.{set_read}
use Rattle.field_walk.proofs.ForgetLemmas.{sets_same, unlisted_in}
use Rattle.field_walk.proofs.walk.Walk.read_set.Goals as goal

pub returns-in-Ok : goal.returns-in-Ok
returns-in-Ok c = λ all h. rw c.in_ok-next.ensures (set_read c.args.self.now all c.push.new.self c.push_letters.new.self c.args.name.now c.args.value.now h (rw (← c.spot.ensures all h, ← c.in_ok-copy.ensures) c.in_ok-push.ensures.ok) (rw (← c.get.ensures) c.in-Ok.ensures.ok))

pub returns-in-Err : goal.returns-in-Err
returns-in-Err c = λ all h. sets_same c.args.self.now all c.pop.new.self c.push_letters.new.self h
    (λ noted asked. unlisted_in noted c.args.self.now.in_note c.args.self.now.in_note (bytes_eq asked c.args.name.now) _ _ _ _ refl (c.in_ok-push.ensures.ok noted asked) (c.pop.ensures noted asked))
    c.in-Err.ensures.err
