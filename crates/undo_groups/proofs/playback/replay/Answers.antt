use Rattle.std.proofs.Common.{arith}
use Rattle.undo_groups.specs.Replay.{opening}
use Rattle.undo_groups.proofs.Plays.{Plays-on}
use Rattle.undo_groups.proofs.playback.replay.Goals as goal

pub loop-step-preserved : goal.loop-step-preserved
loop-step-preserved g c =
    let t = g.T.Invertible in
    record {
      few = c.in_ok-take.ensures.few;
      of_target = c.in_ok-take.ensures.of_target;
      plays =
          Plays-on t.expansion t.after t.value t.meaning c.args.steps.now c.loop-step.step-index c.loop-step.replies.items c.push.new.self.items
          (opening c.args.target.now) (record { target = c.loop-step.played; lists = c.loop-step.groups }) (record { target = c.take.new.target; lists = c.take.new.groups })
          c.step-item.result c.in_ok-take.field-0 (omega arith) c.step-item.is c.in_ok-push.ensures.items c.loop-step.invariant.plays c.in_ok-take.ensures.takes;
    }
