use Rattle.std.proofs.Common.{◌≡◌, [], map, take}
use Rattle.load_model.specs.Left.{all_of, only_attributes, attributes_of}
use Rattle.load_model.specs.Values.{attributes_left}
use Rattle.element_parts.specs.Shown.{shown}
use Rattle.sheet_styles.proofs.all_values.parts_left.Given as goal

abbrev pub invariant-parts : goal.invariant-parts
invariant-parts l = l.total ≡ shown (all_of (map (λ part. only_attributes (attributes_left [] (attributes_of part))) (map (λ part. part.now) (take l.part-index l.parts))))
