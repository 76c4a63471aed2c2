use Rattle.std.proofs.Common.{◌≡◌, ◌-◌, arith}
use Rattle.std.proofs.Common.{ap, ◌∙◌, length, List, ℕ}
use Rattle.field_model.specs.Cut.{cut}
use Rattle.field_walk.proofs.ForgetLemmas.{set_forgot}
use Rattle.field_walk.proofs.walk.Walk.forget_set.Goals as goal

pub returns : goal.returns
returns c = λ all h.
    let count : c.saturating_sub-self.result ≡ c.args.self.now.count - 1 = omega arith in
    rw count (set_forgot c.args.self.now all c.pop.new.self c.pop-2.new.self c.args.name.now c.args.value.now c.quoted.result h c.pop.ensures c.pop-2.ensures (c.quoted.ensures ∙ ap (λ (text : List ℕ). length (cut text)) c.get.ensures))
