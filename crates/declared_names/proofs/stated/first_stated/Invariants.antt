use Rattle.std.proofs.Common.{map, take}
use Rattle.declared_names.specs.Kept.{Keeps, stated_of}
use Rattle.declared_names.proofs.stated.first_stated.Given as goal

abbrev pub invariant-stated : goal.invariant-stated
invariant-stated l = Keeps (map stated_of (take l.one-index l.stated)) l.kept
