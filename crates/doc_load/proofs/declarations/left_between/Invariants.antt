use Rattle.std.proofs.Common.{◌≡◌, List, map, take}
use Rattle.load_model.specs.Left.{Left, all_of}
use Rattle.element_parts.specs.Shown.{shown}
use Rattle.doc_load.proofs.declarations.left_between.Given as goal

abbrev pub invariant-declarations : goal.invariant-declarations
invariant-declarations l = (lefts : List Left) → map (λ part. part.left) l.declarations ≡ map shown lefts → l.total ≡ shown (all_of (take l.part-index lefts))
