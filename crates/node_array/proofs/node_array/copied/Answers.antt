use Rattle.std.proofs.Common.{[], ◌∷◌, ◌++◌, sym, ap, ◌∙◌, arith}
use Rattle.std.specs.List.{between}
use Rattle.node_array.specs.Held.{plain_rows}
use Rattle.node_array.proofs.HeldRows.{plain_more}
use Rattle.node_array.proofs.node_array.copied.Goals as goal

pub loop-at-preserved : goal.loop-at-preserved
loop-at-preserved c =
    let front = between c.args.from c.loop-at.at (plain_rows c.args.rows.now) in
    c.in_ok-push.ensures.items
    ∙ (ap (λ rs. rs ++ c.in_ok-copy.field-0 ∷ []) c.loop-at.invariant
    ∙ (ap (λ r. front ++ r ∷ []) (c.in_ok-copy.ensures ∙ ap (λ p. p.row) c.item.ensures)
    ∙ sym (plain_more c.args.rows.now c.args.from c.loop-at.at c.get.result.now (omega arith) c.get.ensures)))
