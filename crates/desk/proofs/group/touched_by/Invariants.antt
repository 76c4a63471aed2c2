use Rattle.std.proofs.Common.{◌≡◌, ◌++◌, drop}
use Rattle.edit_model.specs.Edit.{Edited, touched_by}
use Rattle.desk.proofs.group.touched_by.Given as goal

-- What was touched so far, and then by the edits that are left, is what all touch.
abbrev pub invariant-loop-op : goal.invariant-loop-op
invariant-loop-op l = (old : Edited) → l.touched ++ touched_by old (drop l.op-index l.op-items) ≡ touched_by old l.op-items
