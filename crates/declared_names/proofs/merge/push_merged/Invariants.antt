use Rattle.declared_names.specs.Merge.{IsRising}
use Rattle.declared_names.proofs.MergeLemmas.{Goes}
use Rattle.declared_names.proofs.merge.push_merged.Given as goal

abbrev pub invariant-other : goal.invariant-other
invariant-other l = IsRising l.one → Goes l.one l.other l.fn.places.items l.places.items l.left l.place-index
