use Rattle.std.proofs.Common.{◌≡◌, ℕ, List, true, length, ap, ◌∙◌, arith}
use Rattle.std.specs.List.{concat}
use Rattle.unicode_segmentation.specs.Grapheme.{graphemes, is_grapheme_break}
use Rattle.unicode_segmentation.specs.Iter.{graphemes_left}
use Rattle.unicode_segmentation.proofs.SegmentsLemmas.{concat-segments}
use Rattle.line_model.specs.Units.{units_from}
use Rattle.break_units.proofs.clusters.units.Goals as goal

pub loop-cluster-init : goal.loop-cluster-init
loop-cluster-init c =
    let left : graphemes_left c.into_iter-cluster-iterator.result ≡ graphemes true c.args.text.now =
    ap graphemes_left c.into_iter-cluster-iterator.ensures.into_iter_gives ∙ c.graphemes-cluster-items.ensures.left in
    let whole = concat-segments (is_grapheme_break true) c.args.text.now c.utf8.text in (
      tt,
      tt,
      rw c.new-units.ensures (ap (units_from 0) left),
      omega (arith, ap (λ (pieces : List (List ℕ)). length (concat pieces)) left, ap length whole),
    )
