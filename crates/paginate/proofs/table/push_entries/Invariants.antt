use Rattle.std.proofs.Common.{◌≡◌, ◌++◌, drop, map}
use Rattle.paginate.specs.Marks.{closed_entry}
use Rattle.paginate.proofs.table.push_entries.Given as goal

abbrev pub invariant-loop-page : goal.invariant-loop-page
invariant-loop-page l = l.entries ++ map closed_entry (drop l.page-index l.pages) ≡ l.fn.entries ++ map closed_entry l.pages
