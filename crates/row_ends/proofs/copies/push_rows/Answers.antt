use Rattle.std.proofs.Common.{List, [], ◌∷◌, ◌++◌, sym, ap, ◌∙◌, append_assoc}
use Rattle.std.specs.List.{between}
use Rattle.node_array.specs.declared.row.Row.{Row}
use Rattle.node_array.specs.Rows.{rows_of}
use Rattle.row_ends.proofs.EndRows.{one_between}
use Rattle.row_ends.proofs.copies.push_rows.Goals as goal

pub loop-at-preserved : goal.loop-at-preserved
loop-at-preserved c =
    let rows : List Row = rows_of c.args.rows.now in
    let front : List Row = between c.args.from c.loop-at.at rows in
    c.in_ok-push.ensures.items
    ∙ ap (λ (copies : List Row). copies ++ c.in_ok-copy.field-0 ∷ []) c.loop-at.invariant
    ∙ append_assoc c.args.copies.now.items front (c.in_ok-copy.field-0 ∷ [])
    ∙ ap (λ (one : Row). c.args.copies.now.items ++ (front ++ one ∷ [])) c.in_ok-copy.ensures
    ∙ ap (λ (some : List Row). c.args.copies.now.items ++ some) (sym (one_between rows c.args.from c.loop-at.at c.row.result.now c.loop-at.auto.at c.row.ensures))
