use Rattle.undo_groups.specs.Past.{AreOf}
use Rattle.undo_groups.proofs.tests.act_often.Given as goal

abbrev pub invariant-loop-time : goal.invariant-loop-time
invariant-loop-time g l = AreOf g.T.Invertible.meaning (g.T.Invertible.value l.target) l.groups
