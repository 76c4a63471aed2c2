use Rattle.std.proofs.Common.{◌≡◌, ◌++◌, map, take}
use Rattle.declared_names.specs.Kept.{stated_of}
use Rattle.doc_load.specs.Parts.{told}
use Rattle.doc_load.proofs.declarations.push_stated.Given as goal

abbrev pub invariant-declared : goal.invariant-declared
invariant-declared l = map stated_of l.stated.items ≡ map stated_of l.fn.stated.items ++ map told (take l.one-index l.declared)
