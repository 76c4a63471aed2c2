use Rattle.std.proofs.Common.{◌≡◌, ◌++◌, take}
use Rattle.std.specs.List.{flat_map}
use Rattle.text_state.specs.NamePlaces.{par_places}
use Rattle.text_state.proofs.places.push_pars.Given as goal

abbrev pub invariant-loop-par : goal.invariant-loop-par
invariant-loop-par l = l.places.items ≡ l.fn.places.items ++ flat_map (par_places l.kind) (take l.par-index l.par-items)
