use Rattle.std.proofs.Common.{◌≡◌, List, map, take}
use Rattle.load_model.specs.Left.{Left, all_of}
use Rattle.element_parts.specs.Shown.{shown}
use Rattle.declared_names.proofs.left.all_left.Given as goal

abbrev pub invariant-kept : goal.invariant-kept
invariant-kept l = (lefts : List Left) → map (λ one. one.left) l.kept ≡ map shown lefts → l.total ≡ shown (all_of (take l.one-index lefts))
