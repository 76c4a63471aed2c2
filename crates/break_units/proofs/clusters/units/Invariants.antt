use Rattle.std.proofs.Common.{◌≡◌, ◌+◌, ◌++◌, length}
use Rattle.std.specs.List.{concat}
use Rattle.unicode_segmentation.specs.Iter.{graphemes_left}
use Rattle.line_model.specs.Units.{units_from, units_at}
use Rattle.break_units.proofs.clusters.units.Given as goal

abbrev pub invariant-loop-cluster : goal.invariant-loop-cluster
invariant-loop-cluster l =
    (goal.iterator-loop-cluster).can_next l.cluster-iterator ×
    (goal.iterator-loop-cluster).is_finite l.cluster-iterator ×
    (l.units ++ units_from l.from (graphemes_left l.cluster-iterator) ≡ units_at 0 l.text) ×
    (l.from + length (concat (graphemes_left l.cluster-iterator)) ≡ length l.text)
