use Rattle.std.proofs.Common.{ap, sym, ◌∙◌}
use Rattle.round_model.specs.Stops.{paragraph_count}
use Rattle.desk_model.specs.Desk.{State, present}
use Rattle.desk.proofs.Changes.{follows_group, numbers_behind, state_behind}
use Rattle.desk.proofs.desk.Desk.change.Goals as goal

pub restart-requires-clause-same : goal.restart-requires-clause-same
restart-requires-clause-same c =
    let count = c.requires.count ∙ ap (λ (state : State). paragraph_count (present state)) (sym c.self.view_is) in
    let follows = follows_group c.self.inside.past c.put.new.self c.self.inside.agenda c.args.document c.in_ok-touched.touched c.restyles.result c.self.invariant c.requires.plain count c.in_ok-put.ensures.ok in
    numbers_behind c.self.inside.past c.put.new.self c.self.inside.agenda c.present.result.now c.self.invariant follows c.present.ensures

pub invariant_of-self-2 : goal.invariant_of-self-2
invariant_of-self-2 c =
    let count = c.requires.count ∙ ap (λ (state : State). paragraph_count (present state)) (sym c.self.view_is) in
    let follows = follows_group c.self.inside.past c.put.new.self c.self.inside.agenda c.args.document c.in_ok-touched.touched c.restyles.result c.self.invariant c.requires.plain count c.in_ok-put.ensures.ok in
    state_behind c.self.inside.past c.put.new.self c.restart.new.agenda c.present.result.now follows c.present.ensures c.restart.ensures.reached
