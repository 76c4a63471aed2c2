use Rattle.std.proofs.Common.{take}
use Rattle.undo_groups.specs.Lists.{IsFew}
use Rattle.undo_groups.specs.Past.{AreOf}
use Rattle.undo_groups.specs.Replay.{Plays, opening}
use Rattle.undo_groups.proofs.playback.replay.Given as goal

abbrev pub invariant-loop-step : goal.invariant-loop-step
invariant-loop-step g l =
    let t = g.T.Invertible in
    record {
      few : IsFew l.groups;
      of_target : AreOf t.meaning (t.value l.played) l.groups;
      plays : Plays t.expansion t.after t.value t.meaning (take l.step-index l.steps) l.replies.items (opening l.fn.target) (record { target = l.played; lists = l.groups });
    }
