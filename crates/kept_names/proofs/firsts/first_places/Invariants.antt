use Rattle.std.proofs.Common.{take, map}
use Rattle.met_read.specs.Read.{met_of}
use Rattle.kept_names.specs.Firsts.{Holds, named}
use Rattle.kept_names.proofs.firsts.first_places.Given as goal

abbrev pub invariant-loop-one : goal.invariant-loop-one
invariant-loop-one l = Holds l.firsts (named l.kind (map met_of (take l.one-index l.met)))
