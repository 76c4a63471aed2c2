-- No file before the index has the name.
use Rattle.std.proofs.Common.{◌≡◌, drop}
use Rattle.quill_io.specs.MemShelf.{bytes_at, files_of}
use Rattle.quill_io.proofs.mem_shelf.find.Given as goal

abbrev pub invariant-loop-other : goal.invariant-loop-other
invariant-loop-other l = bytes_at (files_of l.files) l.name ≡ bytes_at (files_of (drop l.other-index l.files)) l.name
