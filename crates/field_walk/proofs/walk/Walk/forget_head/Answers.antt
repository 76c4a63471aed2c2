use Rattle.std.proofs.Common.{◌≡◌, ◌-◌, ap, ◌∙◌, arith, length, take, ℕ}
use Rattle.std.specs.Prelude.{vec_len}
use Rattle.field_walk.specs.declared.walk.Walk.{Walk}
use Rattle.field_walk.proofs.ForgetLemmas.{head_forgot}
use Rattle.field_walk.proofs.walk.Walk.forget_head.Goals as goal

pub returns : goal.returns
returns c = λ label all h k.
    let same : c.leave.new.self.count ≡ c.args.self.now.count = ap (λ (walk : Walk). walk.count) c.leave.ensures.rest in
    let count : c.saturating_sub-self.result ≡ c.args.self.now.count - 1 = omega (arith, same) in
    let len : vec_len c.args.self.now.pars ≡ length c.args.self.now.pars.items = omega arith in
    let pars : c.pop-2.new.self.items ≡ take (length c.args.self.now.pars.items - 1) c.args.self.now.pars.items = c.pop-2.ensures.rest ∙ ap (λ (n : ℕ). take (n - 1) c.args.self.now.pars.items) len in
    rw (count, c.leave.ensures.rest) (head_forgot c.args.self.now (record c.leave.new.self { runs = c.pop.new.self; pars = c.pop-2.new.self; places = c.restore_place.new.places }) c.args.kept all c.args.place c.args.head.now label h k c.pop.ensures pars c.restore_place.ensures c.leave.ensures.places)
