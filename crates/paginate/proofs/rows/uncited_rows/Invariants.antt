use Rattle.std.proofs.Common.{◌≡◌, ◌++◌, drop}
use Rattle.paginate.specs.Uncited.{uncited_rows}
use Rattle.paginate.proofs.rows.uncited_rows.Given as goal

abbrev pub invariant-lines : goal.invariant-lines
invariant-lines l = l.rows.items ++ uncited_rows l.masters l.place l.par l.index (drop l.index l.lines) ≡ uncited_rows l.masters l.place l.par 0 l.lines
