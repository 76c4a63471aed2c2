use Rattle.undo_groups.proofs.Expansions.{RunSoFar}
use Rattle.undo_groups.proofs.ready.Ready.of_group.Given as goal

abbrev pub invariant-loop-index : goal.invariant-loop-index
invariant-loop-index g l =
    let t = g.T.Invertible in
    RunSoFar t.expansion t.after t.value t.meaning l.fn.target l.ops l.index l.changed l.prims.items l.answered.items
