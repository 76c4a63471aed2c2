use Rattle.std.proofs.Common.{◌≡◌, ◌-◌, ap, ◌∙◌, arith}
use Rattle.field_walk.specs.declared.walk.Walk.{Walk}
use Rattle.field_walk.proofs.ForgetLemmas.{note_forgot}
use Rattle.field_walk.proofs.walk.Walk.forget_note.Goals as goal

pub returns : goal.returns
returns c = λ all h.
    let same : c.uncite.new.self.count ≡ c.args.self.now.count = ap (λ (walk : Walk). walk.count) c.uncite.ensures ∙ ap (λ (walk : Walk). walk.count) c.forget_place.ensures.rest in
    let count : c.saturating_sub-self.result ≡ c.args.self.now.count - 1 = omega (arith, same) in
    rw (count, c.uncite.ensures, c.forget_place.ensures.rest) (note_forgot c.args.self.now all c.pop_named.new.self c.forget_place.new.self c.args.id.now c.args.class h c.pop_named.ensures c.forget_place.ensures.places)
