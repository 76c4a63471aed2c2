use Rattle.std.proofs.Common.{◌≡◌, ◌++◌, map, take}
use Rattle.paginate.specs.Placed.{bodies}
use Rattle.page_print.specs.Headers.{header_row}
use Rattle.page_print.proofs.rows.push_header_rows.Given as goal

abbrev pub invariant-loop-par : goal.invariant-loop-par
invariant-loop-par l = l.rows ≡ l.fn.rows ++ map (header_row (bodies l.plan) l.index l.page) (take l.par-index l.pars)
