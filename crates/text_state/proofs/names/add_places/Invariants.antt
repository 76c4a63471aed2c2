use Rattle.std.proofs.Common.{take}
use Rattle.name_index.specs.Names.{of_kind}
use Rattle.name_index.specs.Scan.{given}
use Rattle.text_state.specs.NamePlaces.{Follows}
use Rattle.text_state.proofs.names.add_places.Given as goal

abbrev pub invariant-loop-place : goal.invariant-loop-place
invariant-loop-place l = Follows l.fn.index l.index (of_kind l.kind (given (take l.place-index l.places)))
