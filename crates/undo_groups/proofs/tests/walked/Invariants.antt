use Rattle.undo_groups.specs.Past.{AreOf}
use Rattle.undo_groups.proofs.tests.walked.Given as goal

abbrev pub invariant-loop-what : goal.invariant-loop-what
invariant-loop-what g l = AreOf g.T.Invertible.meaning (g.T.Invertible.value l.target) l.groups
