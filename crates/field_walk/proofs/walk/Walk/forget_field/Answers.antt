use Rattle.std.proofs.Common.{◌≡◌, ◌∷◌, subst, rules}
use Rattle.field_model.specs.Gathered.{Event, Counted, Asked, field_event}
use Rattle.field_walk.specs.Holds.{HoldsEvents}
use Rattle.field_walk.proofs.walk.Walk.forget_field.Goals as goal

pub returns-in-Sequence : goal.returns-in-Sequence
returns-in-Sequence c = λ all h.
    let e : field_event c.args.field.now ≡ Counted c.in-Sequence.name c.in-Sequence.refname c.in-Sequence.format = search rules in
    c.forget_sequence.ensures c.in-Sequence.format all (subst (λ (event : Event). HoldsEvents c.args.self.now (event ∷ all)) e h)

pub returns-in-VarGet : goal.returns-in-VarGet
returns-in-VarGet c = λ all h.
    let e : field_event c.args.field.now ≡ Asked c.in-VarGet.name = search rules in
    c.forget_piece.ensures.asked c.in-VarGet.name all (subst (λ (event : Event). HoldsEvents c.args.self.now (event ∷ all)) e h)
