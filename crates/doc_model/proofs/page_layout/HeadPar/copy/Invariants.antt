use Rattle.std.proofs.Common.{◌≡◌, take}
use Rattle.doc_model.proofs.page_layout.HeadPar.copy.Given as goal

abbrev pub invariant-loop-what : goal.invariant-loop-what
invariant-loop-what l = l.copies.items ≡ take l.what-index l.whats
