use Rattle.std.proofs.Common.{◌≡◌, ◌++◌, map, take}
use Rattle.item_edits.specs.Spans.{with_own_spans}
use Rattle.item_edits.proofs.ranges.push_spanned.Given as goal

abbrev pub invariant-loop-item : goal.invariant-loop-item
invariant-loop-item l = l.changed.items ≡ l.fn.changed.items ++ map (with_own_spans l.spans) (take l.item-index l.items)
