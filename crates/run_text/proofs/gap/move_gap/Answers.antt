-- Each swap lets one item pass the gap.
use Rattle.std.proofs.Common.{◌-◌, ◌∙◌, arith}
use Rattle.run_text.proofs.Gaps.{kept_ahead, kept_back}
use Rattle.run_text.proofs.gap.move_gap.Goals as goal

pub right-preserved : goal.right-preserved
right-preserved g c = record {
  within = omega arith;
  kept = kept_ahead c.right.cells _ c.right.start c.args.width c.swap.ensures.after (omega arith) ∙ c.right.invariant.kept;
}

pub left-preserved : goal.left-preserved
left-preserved g c = record {
  within = omega arith;
  reached = omega arith;
  kept = kept_back c.left.cells _ (c.left.start - 1) c.left.start c.args.width c.swap-in-left.ensures.after (omega arith) (omega arith) ∙ c.left.invariant.kept;
}
