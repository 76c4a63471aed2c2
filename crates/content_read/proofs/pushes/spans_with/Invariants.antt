use Rattle.std.proofs.Common.{◌≡◌, take}
use Rattle.content_read.proofs.pushes.spans_with.Given as goal

abbrev pub invariant-loop-one : goal.invariant-loop-one
invariant-loop-one l = record {
  all : l.one-items ≡ l.spans;
  names : l.names.items ≡ take l.one-index l.one-items;
}
