use Rattle.std.proofs.Common.{List, take}
use Rattle.std.specs.List.{flat_map}
use Rattle.field_model.specs.Gathered.{GatheredPar}
use Rattle.doc_texts.specs.Places.{with_notes}
use Rattle.doc_texts.specs.Behind.{all_behind}
use Rattle.doc_texts.specs.Holds.{HasRead}
use Rattle.doc_texts.proofs.reader.Reader.read_all.Given as goal

abbrev pub invariant-loop-lent : goal.invariant-loop-lent
invariant-loop-lent l = (before : List GatheredPar) → HasRead l.lists before l.fn.self
    → HasRead l.lists (all_behind l.lists l.outline before (flat_map (λ lent. with_notes lent.par.now) (take l.lent-index l.places))) l.self
