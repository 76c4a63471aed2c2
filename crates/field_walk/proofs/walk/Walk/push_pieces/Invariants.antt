use Rattle.std.proofs.Common.{◌≡◌, ◌++◌, List, take}
use Rattle.field_model.specs.Cut.{cut}
use Rattle.field_model.specs.Gathered.{Event}
use Rattle.field_model.specs.Shown.{quote}
use Rattle.field_walk.specs.Holds.{HoldsEvents}
use Rattle.field_walk.proofs.walk.Walk.push_pieces.Given as goal

abbrev pub invariant-loop-piece : goal.invariant-loop-piece
invariant-loop-piece l = (all : List Event) → HoldsEvents l.self all → l.out ≡ cut (l.initial.out ++ quote all (take l.piece-index l.pieces))
