use Rattle.std.proofs.Common.{◌≡◌, drop}
use Rattle.paginate.specs.Heads.{heads_behind}
use Rattle.paginate.proofs.heads.heads_behind.Given as goal

abbrev pub invariant-rows : goal.invariant-rows
invariant-rows l = heads_behind l.behind (drop l.row-index l.rows) ≡ heads_behind l.fn.heads l.rows
