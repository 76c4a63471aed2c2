use Rattle.std.proofs.Common.{◌≡◌, ◌++◌, filter, take}
use Rattle.doc_model.specs.Parts.{is_mark}
use Rattle.item_edits.proofs.ranges.push_marks.Given as goal

abbrev pub invariant-loop-item : goal.invariant-loop-item
invariant-loop-item l = l.marks.items ≡ l.fn.marks.items ++ filter is_mark (take l.item-index l.items)
