use Rattle.std.proofs.Common.{◌≡◌, ◌++◌, take}
use Rattle.std.specs.List.{flat_map}
use Rattle.node_array.specs.Rows.{par_rows}
use Rattle.text_state.specs.PartRows.{item_rows}
use Rattle.text_state.proofs.body_rows.+push_par.Given as goal

abbrev pub invariant-push_pars-loop-par : goal.invariant-push_pars-loop-par
invariant-push_pars-loop-par l = l.rows.items ≡ l.fn.rows.items ++ flat_map par_rows (take l.par-index l.par-items)

abbrev pub invariant-push_texts-loop-item : goal.invariant-push_texts-loop-item
invariant-push_texts-loop-item l = l.rows.items ≡ l.fn.rows.items ++ flat_map (λ item. (item_rows item).1) (take l.item-index l.item-items)
