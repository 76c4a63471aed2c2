use Rattle.std.proofs.Common.{◌≡◌, ◌++◌, List, take, drop}
use Rattle.field_model.specs.Cut.{cut}
use Rattle.field_model.specs.Gathered.{Event}
use Rattle.field_model.specs.Shown.{quote, up_to_gap}
use Rattle.field_walk.specs.Holds.{HoldsEvents}
use Rattle.field_walk.proofs.walk.Walk.push_up_to_gap.Given as goal

abbrev pub invariant-loop-piece : goal.invariant-loop-piece
invariant-loop-piece l = record {
  gap : up_to_gap l.pieces ≡ take l.piece-index l.pieces ++ up_to_gap (drop l.piece-index l.pieces);
  quoted : (all : List Event) → HoldsEvents l.self all → l.out ≡ cut (l.initial.out ++ quote all (take l.piece-index l.pieces));
}
