use Rattle.std.proofs.Common.{◌≡◌, map, take}
use Rattle.declared_names.specs.declared.stated.Stated.{Stated}
use Rattle.declared_names.proofs.merge.places_stated.Given as goal

abbrev pub invariant-stated : goal.invariant-stated
invariant-stated l = l.places.items ≡ map (λ (one : Stated). one.place) (take l.one-index l.stated)
