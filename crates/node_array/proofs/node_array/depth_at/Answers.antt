use Rattle.std.proofs.Common.{ap, ◌∙◌, arith}
use Rattle.node_array.proofs.HeldRows.{depth_at, depth_end}
use Rattle.node_array.proofs.node_array.depth_at.Goals as goal

pub returns-then-at-len : goal.returns-then-at-len
returns-then-at-len c = depth_end c.args.rows.now c.args.at c.requires.holds (omega arith)

pub returns : goal.returns
returns c = ap (λ p. p.depth) c.item.ensures ∙ depth_at c.args.rows.now c.args.at c.get.result.now c.requires.holds c.get.ensures
