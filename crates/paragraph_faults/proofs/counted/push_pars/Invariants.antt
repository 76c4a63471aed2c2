use Rattle.std.proofs.Common.{◌≡◌, ◌++◌, map, take}
use Rattle.paragraph_faults.specs.Counts.{counted_of, count_of}
use Rattle.paragraph_faults.proofs.counted.push_pars.Given as goal

abbrev pub invariant-pars : goal.invariant-pars
invariant-pars l = map counted_of l.counted.items ≡ map counted_of l.fn.counted.items ++ map count_of (take l.par-index l.pars)
