use Rattle.std.proofs.Common.{◌≡◌, map, take}
use Rattle.met_read.specs.declared.things.MetName.{MetName}
use Rattle.declared_names.proofs.merge.places_used.Given as goal

abbrev pub invariant-used : goal.invariant-used
invariant-used l = l.places.items ≡ map (λ (one : MetName). one.place) (take l.one-index l.used)
