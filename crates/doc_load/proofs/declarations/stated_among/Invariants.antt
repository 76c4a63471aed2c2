use Rattle.std.proofs.Common.{◌≡◌, map, take}
use Rattle.declared_names.specs.Kept.{stated_of}
use Rattle.doc_load.proofs.KindLemmas.{told_of}
use Rattle.doc_load.proofs.declarations.stated_among.Given as goal

abbrev pub invariant-declarations : goal.invariant-declarations
invariant-declarations l = map stated_of l.stated.items ≡ told_of l.sequences (take l.part-index l.declarations)
