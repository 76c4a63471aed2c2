use Rattle.key_parts.proofs.Pieces.{goes_behind}
use Rattle.key_parts.proofs.shown.push_items.Goals as goal

pub items-preserved : goal.items-preserved
items-preserved c = goes_behind _ _ _ _ _ _ _ _ _ c.items.left.now c.item-item.result _ c.items.next.now _
    c.in-len1-up.len_at_least c.item-item.is c.in_ok-push_if_shown.ensures.text c.in_ok-push_if_shown.ensures.notes c.texts_behind-next.ensures c.items.invariant
