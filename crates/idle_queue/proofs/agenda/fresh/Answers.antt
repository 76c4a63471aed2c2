use Rattle.std.proofs.Common.{◌∙◌, ap, ◌++◌, ◌∷◌, []}
use Rattle.round_model.specs.Idle.{Live}
use Rattle.idle_queue.proofs.Starts.{fresh_more}
use Rattle.idle_queue.proofs.agenda.fresh.Goals as goal

pub numbers-preserved : goal.numbers-preserved
numbers-preserved c =
    fresh_more c.args.version c.numbers.before c.numbers.live.items c.push.new.self.items c.numbers.invariant
    (c.in_ok-push.ensures.items ∙ ap (λ (live : Live). c.numbers.live.items ++ live ∷ []) c.new.ensures)
