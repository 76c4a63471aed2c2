use Rattle.std.proofs.Common.{◌≡◌, ◌-◌, arith}
use Rattle.field_walk.proofs.ForgetLemmas.{mark_forgot}
use Rattle.field_walk.proofs.walk.Walk.forget_mark.Goals as goal

pub returns : goal.returns
returns c = λ all h.
    let count : c.saturating_sub-self.result ≡ c.args.self.now.count - 1 = omega arith in
    rw count (mark_forgot c.args.self.now all c.pop.new.self c.name_of.result.now (rw c.name_of.ensures h) c.pop.ensures)
