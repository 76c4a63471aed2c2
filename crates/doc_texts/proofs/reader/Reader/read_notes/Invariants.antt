use Rattle.std.proofs.Common.{◌≡◌, List, length, take}
use Rattle.std.specs.List.{flat_map}
use Rattle.doc_model.specs.Reading.{note_of}
use Rattle.field_model.specs.Gathered.{GatheredPar}
use Rattle.doc_texts.specs.Places.{in_notes}
use Rattle.doc_texts.specs.Behind.{all_behind}
use Rattle.doc_texts.specs.Holds.{HasRead}
use Rattle.doc_texts.proofs.reader.Reader.read_notes.Given as goal

abbrev pub invariant-loop-item : goal.invariant-loop-item
invariant-loop-item l = (l.number ≡ length (flat_map note_of (take l.item-index l.items)))
    × ((before : List GatheredPar) → HasRead l.lists before l.fn.self
    → HasRead l.lists (all_behind l.lists l.outline before (in_notes 1 (flat_map note_of (take l.item-index l.items)))) l.self)
