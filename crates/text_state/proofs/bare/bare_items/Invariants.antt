use Rattle.std.proofs.Common.{◌≡◌, take}
use Rattle.std.specs.Prelude.{map}
use Rattle.text_state.specs.PartRows.{item_rows}
use Rattle.text_state.proofs.bare.bare_items.Given as goal

abbrev pub invariant-loop-item : goal.invariant-loop-item
invariant-loop-item l = l.copies.items ≡ map (λ item. (item_rows item).0) (take l.item-index l.items)
