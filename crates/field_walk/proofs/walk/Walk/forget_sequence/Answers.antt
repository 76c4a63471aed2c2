use Rattle.std.proofs.Common.{◌≡◌, ◌-◌, arith}
use Rattle.field_walk.proofs.ForgetLemmas.{sequence_forgot}
use Rattle.field_walk.proofs.walk.Walk.forget_sequence.Goals as goal

pub returns : goal.returns
returns c = λ format all h.
    let count : c.saturating_sub-self.result ≡ c.args.self.now.count - 1 = omega arith in
    rw count (sequence_forgot c.args.self.now all c.pop_named.new.self c.pop.new.self c.pop-2.new.self c.args.name.now c.args.refname.now format h c.pop_named.ensures c.pop.ensures c.pop-2.ensures)
