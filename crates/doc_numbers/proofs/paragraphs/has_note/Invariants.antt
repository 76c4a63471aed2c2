use Rattle.std.proofs.Common.{◌≡◌, false, take}
use Rattle.std.specs.List.{list_any}
use Rattle.doc_numbers.specs.Numbering.{is_note}
use Rattle.doc_numbers.proofs.paragraphs.has_note.Given as goal

abbrev pub invariant-items : goal.invariant-items
invariant-items l = list_any is_note (take l.item-index l.items) ≡ false
