use Rattle.std.proofs.Common.{◌≡◌, ◌++◌, drop, map}
use Rattle.paginate.proofs.sets.push_pars.Given as goal

abbrev pub invariant-loop-par : goal.invariant-loop-par
invariant-loop-par l = l.set.items ++ map (λ note_par. note_par.par) (drop l.par-index l.pars) ≡ l.fn.set.items ++ map (λ note_par. note_par.par) l.pars
