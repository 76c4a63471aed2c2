use Rattle.std.proofs.Common.{◌≡◌, ◌++◌}
use Rattle.std.specs.List.{between}
use Rattle.tagged_list.specs.Entries.{tagged_of}
use Rattle.tagged_list.proofs.keys.add_range.Given as goal

abbrev pub invariant-loop-at : goal.invariant-loop-at
invariant-loop-at g l = l.all.items ≡ l.fn.all.items ++ between l.from l.at (tagged_of l.items)
