use Rattle.std.proofs.Common.{◌≡◌, ◌++◌, [], replicate}
use Rattle.paginate.proofs.contents.push_blanks.Given as goal

abbrev pub invariant-loop : goal.invariant-loop
invariant-loop l = l.texts ≡ l.fn.texts ++ replicate l.counter []
