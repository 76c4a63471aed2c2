use Rattle.std.proofs.Common.{ℕ, [], ◌∷◌, ◌++◌, take, sym, ap, ◌∙◌}
use Rattle.node_array.specs.Held.{tag_of, next_depth, placed_rows}
use Rattle.node_array.proofs.HeldRows.{placed_more, depth_more}
use Rattle.node_array.proofs.node_array.placed.Goals as goal

pub loop-row-preserved : goal.loop-row-preserved
loop-row-preserved c =
    let rows = c.args.rows.now in
    let at = c.loop-row.row-index in
    let r = c.row-item.result in
    let depth = c.loop-row.depth in
    let own = placed_rows c.args.depth (take at rows) in
    let is = c.in_ok-new.ensures ∙ (ap (λ t. (t, record { depth = depth; row = c.in_ok-copy.copy })) c.tag-tag.ensures ∙ (ap (λ x. (tag_of depth r, record { depth = depth; row = x })) c.in_ok-copy.ensures ∙ ap (λ n. (tag_of n r, record { depth = n; row = r })) c.loop-row.invariant.depth)) in
    record {
      placed = c.in_ok-push.ensures.items
          ∙ (ap (λ xs. xs ++ c.in_ok-new.field-0 ∷ []) c.loop-row.invariant.placed
          ∙ (ap (λ one. own ++ one ∷ []) is ∙ sym (placed_more c.args.depth rows at r c.loop-row-test.true c.row-item.is)));
      depth = c.in_ok-depth.ensures ∙ (ap (λ (n : ℕ). next_depth n r) c.loop-row.invariant.depth ∙ sym (depth_more c.args.depth rows at r c.loop-row-test.true c.row-item.is));
    }
