use Rattle.std.proofs.Common.{◌≡◌, map, take}
use Rattle.std.specs.List.{filter_map}
use Rattle.met_read.specs.Read.{met_of}
use Rattle.tree_faults.specs.Tables.{table_in}
use Rattle.tree_faults.proofs.tables.table_places.Given as goal

abbrev pub invariant-met : goal.invariant-met
invariant-met l = l.places.items ≡ filter_map table_in (map met_of (take l.one-index l.met))
