use Rattle.std.proofs.Common.{◌≡◌, ◌≤◌, map, drop}
use Rattle.load_model.specs.Offences as model
use Rattle.paragraph_faults.specs.Counts.{counted_of}
use Rattle.paragraph_faults.proofs.limits.first_too_many.Given as goal

abbrev pub invariant-counted : goal.invariant-counted
invariant-counted l = record {
  few : l.before ≤ 4194304;
  rest : model.first_too_many l.before (map counted_of (drop l.par-index l.counted)) ≡ model.first_too_many 0 (map counted_of l.counted);
}
