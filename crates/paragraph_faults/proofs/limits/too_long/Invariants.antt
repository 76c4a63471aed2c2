use Rattle.std.proofs.Common.{◌≡◌, map, take}
use Rattle.load_model.specs.Offences as model
use Rattle.paragraph_faults.specs.Counts.{counted_of}
use Rattle.paragraph_faults.proofs.limits.too_long.Given as goal

abbrev pub invariant-counted : goal.invariant-counted
invariant-counted l = l.places.items ≡ model.too_long (map counted_of (take l.par-index l.counted))
