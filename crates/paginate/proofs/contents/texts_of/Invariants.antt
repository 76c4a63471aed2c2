use Rattle.std.proofs.Common.{◌≡◌, ◌++◌, drop}
use Rattle.page_model.specs.Bodies.{texts_of}
use Rattle.paginate.proofs.contents.texts_of.Given as goal

abbrev pub invariant-rows : goal.invariant-rows
invariant-rows l = l.texts ++ texts_of (drop l.index l.rows) ≡ texts_of l.rows
