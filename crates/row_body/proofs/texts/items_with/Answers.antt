use Rattle.std.proofs.Common.{◌∙◌}
use Rattle.row_body.proofs.Pieces.{both_copied}
use Rattle.row_body.proofs.texts.items_with.Goals as goal

pub returns : goal.returns
returns c =
    c.from_vec.ensures ∙ both_copied c.args.items.now _ _ c.args.texts.now _ _ _ _ _ c.slice.ensures c.len-len.ensures c.in_ok-copies.ensures.items
    c.in_ok-push_items.ensures.copied c.in_ok-push_items.ensures.left c.in_ok-push_items-2.ensures.copied
