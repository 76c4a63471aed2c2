use Rattle.std.proofs.Common.{List, map, take}
use Rattle.field_model.specs.declared.gathered.Gathered.TheVariants as place
use Rattle.field_model.specs.Gathered.{GatheredPar}
use Rattle.doc_texts.specs.Places.{placed_at}
use Rattle.doc_texts.specs.Behind.{all_behind}
use Rattle.doc_texts.specs.Holds.{HasRead}
use Rattle.doc_texts.proofs.reader.Reader.read_note.Given as goal

abbrev pub invariant-loop-par : goal.invariant-loop-par
invariant-loop-par l = (before : List GatheredPar) → HasRead l.lists before l.fn.self
    → HasRead l.lists (all_behind l.lists l.outline before (map (placed_at (place.Note l.number)) (take l.par-index l.par-items))) l.self
