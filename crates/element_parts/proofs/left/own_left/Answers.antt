use Rattle.element_parts.proofs.left.own_left.Goals as goal

pub returns : goal.returns
returns c = c.both.ensures _ _ c.attributes_out.ensures c.leaf_left.ensures
