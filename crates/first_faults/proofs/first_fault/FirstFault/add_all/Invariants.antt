use Rattle.std.proofs.Common.{◌≡◌, ◌++◌, List, take}
use Rattle.load_model.specs.declared.offence.TreeOffence.{TreeOffence}
use Rattle.load_model.specs.Offences.{least, offences_at}
use Rattle.first_faults.proofs.first_fault.FirstFault.add_all.Given as goal

abbrev pub invariant-places : goal.invariant-places
invariant-places l = (before : List TreeOffence) → l.fn.self ≡ least before → l.self ≡ least (before ++ offences_at l.kind (take l.place-index l.places))
