use Rattle.std.proofs.Common.{map, take}
use Rattle.met_read.specs.Read.{met_of}
use Rattle.declared_names.specs.Used.{Uses, names_used}
use Rattle.declared_names.proofs.used.first_used.Given as goal

abbrev pub invariant-met : goal.invariant-met
invariant-met l = Uses l.fn.names (names_used l.sequences (map met_of (take l.one-index l.met))) l.names l.used.items
