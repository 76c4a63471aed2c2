use Rattle.std.proofs.Common.{◌≡◌, ◌++◌, length}
use Rattle.item_stack.proofs.stack.Stack.from_items.Given as goal

abbrev pub invariant-items : goal.invariant-items
invariant-items g l = l.items ++ l.stack ≡ l.fn.items

abbrev pub decreases-items : goal.decreases-items
decreases-items g l = length l.items
