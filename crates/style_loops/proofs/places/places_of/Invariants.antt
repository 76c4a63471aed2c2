use Rattle.std.proofs.Common.{take}
use Rattle.style_loops.specs.Places.{Has}
use Rattle.style_loops.proofs.places.places_of.Given as goal

abbrev pub invariant-loop-place : goal.invariant-loop-place
invariant-loop-place l = Has l.places (take l.place l.styles)
