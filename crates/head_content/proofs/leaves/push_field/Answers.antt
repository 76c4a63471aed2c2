use Rattle.std.proofs.Common.{◌∙◌, ℕ, true, List, map, ap, ap₂, Option}
use Rattle.std.specs.Prelude.{option_to_list}
use Rattle.doc_model.specs.declared.field.Field.{Field}
use Rattle.doc_model.specs.declared.paragraph.Item.{Item}
use Rattle.doc_model.specs.declared.paragraph.What.{roll-What}
use Rattle.doc_model.specs.declared.paragraph.What.TheOpen.{What-F}
use Rattle.load_model.specs.declared.element.Attribute.{Attribute}
use Rattle.load_model.specs.Fields as fields
use Rattle.load_model.specs.Left.{Left, attributes_of, both, leaf_left, only_attributes, tag_of}
use Rattle.load_model.specs.Values.{Rule, attributes_left}
use Rattle.element_parts.specs.Shown.{shown}
use Rattle.head_content.specs.Reading.{item_of, only_items, only_left}
use Rattle.head_content.specs.Walk.{field_in, leaf_of}
use Rattle.head_content.proofs.ReadingLemmas.{leaf_read, ok_is, ok_then}
use Rattle.head_content.proofs.leaves.push_field.Goals as goal

pub returns : goal.returns
returns c =
    let element = c.args.element.now in
    let rules : List Rule = fields.field_rules (tag_of element) true in
    let own : List Rule → Left = λ all. both (only_attributes (attributes_left all (attributes_of element))) (leaf_left element) in
    let left : Left = own rules in
    let items : Option Field → List Item = λ field. map (λ one. item_of (roll-What (What-F.Field one))) (option_to_list field) in
    ok_then c.push_some.result c.args.read.now c.leave_out.new.self c.push_some.new.read (only_left left) (only_items (field_in element)) (leaf_of rules (field_in element) element)
    (leaf_read left (field_in element)) (c.leave_out.ensures left (c.own_left.ensures ∙ ap (λ (all : List Rule). shown (own all)) c.field_rules.ensures))
    (ok_is c.push_some.result c.leave_out.new.self c.push_some.new.read (only_items (items c.in_ok-field.field)) (only_items (field_in element))
    (ap (λ (field : Option Field). only_items (items field)) (c.in_ok-field.ensures ∙ ap₂ (λ (text : List ℕ) (attributes : List Attribute). fields.field_of (tag_of element) true text attributes) c.none.ensures c.get-attributes.ensures)) c.push_some.ensures)
