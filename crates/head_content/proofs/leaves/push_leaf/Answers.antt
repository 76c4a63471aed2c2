use Rattle.std.proofs.Common.{[], ◌∷◌}
use Rattle.load_model.specs.Left.{Left, attributes_of, both, leaf_left, only_attributes}
use Rattle.load_model.specs.Values.{attributes_left}
use Rattle.head_content.specs.Reading.{item_of, only_items, only_left}
use Rattle.head_content.specs.Walk.{leaf_of}
use Rattle.head_content.proofs.ReadingLemmas.{leaf_read, ok_then}
use Rattle.head_content.proofs.leaves.push_leaf.Goals as goal

pub returns : goal.returns
returns c =
    let element = c.args.element.now in
    let left : Left = both (only_attributes (attributes_left [] (attributes_of element))) (leaf_left element) in
    ok_then c.push.result c.args.read.now c.leave_out.new.self c.push.new.self (only_left left) (only_items (item_of c.args.what ∷ [])) (leaf_of [] (item_of c.args.what ∷ []) element)
    (leaf_read left (item_of c.args.what ∷ [])) (c.leave_out.ensures left c.own_left.ensures) c.push.ensures
