use Rattle.std.proofs.Common.{◌≡◌, ◌++◌, drop, fold}
use Rattle.undo_groups.specs.Meaning.{FitInOrder, answers}
use Rattle.undo_groups.proofs.apply.apply_all.Given as goal

-- The primitives that are left fit, and what they make of the target and the answers so far is what all make.
abbrev pub invariant-loop-prim : goal.invariant-loop-prim
invariant-loop-prim g l =
    let m = g.T.Invertible.meaning in
    let value = g.T.Invertible.value in
    let after = g.T.Invertible.after in
    let left = drop l.prim-index l.prims in
    record {
      fits : FitInOrder m (value l.target) left;
      target : fold after l.target left ≡ fold after l.initial.target l.prims;
      answered : l.answered.items ++ answers m (value l.target) left ≡ l.initial.answered.items ++ answers m (value l.initial.target) l.prims;
    }
