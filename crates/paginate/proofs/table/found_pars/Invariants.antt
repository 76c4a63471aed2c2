use Rattle.std.proofs.Common.{◌≡◌, ◌++◌, length}
use Rattle.paginate.specs.Marks.{found_pars}
use Rattle.paginate.proofs.table.found_pars.Given as goal

abbrev pub invariant-pars : goal.invariant-pars
invariant-pars l = l.pars ++ found_pars l.set l.found ≡ found_pars l.fn.set l.fn.found

abbrev pub decreases-pars : goal.decreases-pars
decreases-pars l = length l.set
