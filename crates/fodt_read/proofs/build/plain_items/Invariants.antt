use Rattle.std.proofs.Common.{◌≡◌, take, map}
use Rattle.doc_model.specs.Plain.{plain_item}
use Rattle.fodt_read.proofs.build.plain_items.Given as goal

abbrev pub invariant-loop-byte : goal.invariant-loop-byte
invariant-loop-byte l = l.items.items ≡ map plain_item (take l.byte-index l.text)
