-- The files before the place have names of their own.
use Rattle.std.proofs.Common.{drop}
use Rattle.std.specs.Prelude.{◌↔◌}
use Rattle.quill_io.specs.MemShelf.{HasDistinctNames, files_of}
use Rattle.quill_io.proofs.mem_shelf.has_distinct_names.Given as goal

abbrev pub invariant-loop-place : goal.invariant-loop-place
invariant-loop-place l = HasDistinctNames (files_of l.files) ↔ HasDistinctNames (files_of (drop l.place l.files))
