use Rattle.std.proofs.Common.{List, length}
use Rattle.field_model.specs.Gathered.{Event, with_items}
use Rattle.field_walk.specs.Holds.{HoldsEvents}
use Rattle.field_walk.proofs.walk.Walk.forget_items.Given as goal

abbrev pub invariant-items : goal.invariant-items
invariant-items l = (all : List Event) → HoldsEvents l.initial.self (with_items all l.items) → HoldsEvents l.self (with_items all l.left)

abbrev pub decreases-items : goal.decreases-items
decreases-items l = length l.left
