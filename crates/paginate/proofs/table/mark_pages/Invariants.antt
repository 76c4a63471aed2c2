use Rattle.std.proofs.Common.{◌≡◌, ◌+◌, ◌<◌, ◌^◌, drop, length}
use Rattle.paginate.specs.Marks.{all_marked}
use Rattle.paginate.proofs.table.mark_pages.Given as goal

abbrev pub invariant-pages : goal.invariant-pages
invariant-pages l = l.first + length l.pages < 2 ^ 32 → all_marked (drop l.index l.pages) (l.first + l.index) l.found.items ≡ all_marked l.pages l.first l.fn.found.items
