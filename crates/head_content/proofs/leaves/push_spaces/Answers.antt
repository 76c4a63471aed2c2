use Rattle.std.proofs.Common.{◌∙◌, ℕ, [], ◌∷◌, ap}
use Rattle.std.specs.Prelude.{replicate}
use Rattle.doc_model.specs.declared.paragraph.Item.{Item}
use Rattle.load_model.specs.declared.names.Key.TheVariants as key
use Rattle.load_model.specs.Left.{Left, attributes_of, both, leaf_left, only_attributes}
use Rattle.load_model.specs.Values as values
use Rattle.load_model.specs.Values.{attributes_left, rule, stated_or}
use Rattle.head_content.specs.Reading.{letter_item, only_items, only_left}
use Rattle.head_content.specs.Walk.{leaf_of, spaces_of}
use Rattle.head_content.proofs.ReadingLemmas.{leaf_read, ok_is, ok_then}
use Rattle.head_content.proofs.leaves.push_spaces.Goals as goal

pub returns : goal.returns
returns c =
    let element = c.args.element.now in
    let space : Item = letter_item 0x20 in
    let left : Left = both (only_attributes (attributes_left (rule key.Count (values.number 1 4294967295) ∷ []) (attributes_of element))) (leaf_left element) in
    ok_then c.push_many.result c.args.read.now c.leave_out.new.self c.push_many.new.read (only_left left) (only_items (spaces_of element)) (leaf_of (rule key.Count (values.number 1 4294967295) ∷ []) (spaces_of element) element)
    (leaf_read left (spaces_of element)) (c.leave_out.ensures left c.own_left.ensures)
    (ok_is c.push_many.result c.leave_out.new.self c.push_many.new.read (only_items (replicate c.stated_count.result space)) (only_items (spaces_of element))
    (ap (λ (count : ℕ). only_items (replicate count space)) (c.stated_count.ensures ∙ ap (stated_or key.Count (values.number 1 4294967295) 1) c.get.ensures)) c.push_many.ensures)
