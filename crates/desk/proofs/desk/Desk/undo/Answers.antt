use Rattle.desk.proofs.Changes.{after_undo-follows, numbers_behind, state_behind}
use Rattle.desk.proofs.desk.Desk.undo.Goals as goal

pub restart-requires-clause-same : goal.restart-requires-clause-same
restart-requires-clause-same c =
    let follows = after_undo-follows c.self.inside.past c.undo.new.self c.self.invariant.plain c.self.invariant.counts c.in_ok-undo.ensures.ok in
    numbers_behind c.self.inside.past c.undo.new.self c.self.inside.agenda c.present.result.now c.self.invariant follows c.present.ensures

pub invariant_of-self-2 : goal.invariant_of-self-2
invariant_of-self-2 c =
    let follows = after_undo-follows c.self.inside.past c.undo.new.self c.self.invariant.plain c.self.invariant.counts c.in_ok-undo.ensures.ok in
    state_behind c.self.inside.past c.undo.new.self c.restart.new.agenda c.present.result.now follows c.present.ensures c.restart.ensures.reached
