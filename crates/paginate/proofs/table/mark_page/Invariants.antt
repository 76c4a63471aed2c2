use Rattle.std.proofs.Common.{◌≡◌, take}
use Rattle.paginate.specs.Marks.{marked}
use Rattle.paginate.proofs.table.mark_page.Given as goal

abbrev pub invariant-firsts : goal.invariant-firsts
invariant-firsts l = l.found.items ≡ marked (take l.place-index l.firsts) l.page 0 l.fn.found.items
