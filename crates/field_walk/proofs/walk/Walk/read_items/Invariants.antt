use Rattle.std.proofs.Common.{List, take}
use Rattle.field_model.specs.Gathered.{Event, with_items}
use Rattle.field_walk.specs.Holds.{HoldsEvents}
use Rattle.field_walk.proofs.walk.Walk.read_items.Given as goal

abbrev pub invariant-loop-index : goal.invariant-loop-index
invariant-loop-index l = (all : List Event) → HoldsEvents l.initial.self all → HoldsEvents l.self (with_items all (take l.index l.items))
