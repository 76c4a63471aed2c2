use Rattle.std.proofs.Common.{◌≡◌, ◌+◌, drop}
use Rattle.declared_names.specs.Merge.{below}
use Rattle.declared_names.proofs.merge.count_below.Given as goal

abbrev pub invariant-places : goal.invariant-places
invariant-places l = record {
  count : l.count ≡ l.other-index;
  rest : l.count + below l.place (drop l.other-index l.places) ≡ below l.place l.places;
}
