use Rattle.field_model.specs.Gathered.{events}
use Rattle.field_walk.proofs.walk.Walk.gather_one.Goals as goal

pub returns-in-Err-clause-err : goal.returns-in-Err-clause-err
returns-in-Err-clause-err c = λ before h next.
    let read = c.in_ok-kept.ensures.read (events before) h next in
    c.forget_head.ensures c.args.label.now (events before) (c.in-Err.ensures _ read) (c.in_ok-kept.ensures.kept (events before) h)
