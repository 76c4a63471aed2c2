use Rattle.std.proofs.Common.{◌∙◌, true, List, ap}
use Rattle.load_model.specs.Fields as fields
use Rattle.load_model.specs.Left.{Left, attributes_of, both, leaf_left, only_attributes, tag_of}
use Rattle.load_model.specs.Values.{Rule, attributes_left}
use Rattle.element_parts.specs.Shown.{shown}
use Rattle.head_content.specs.Reading.{only_items, only_left}
use Rattle.head_content.specs.Walk.{leaf_of, stored_in}
use Rattle.head_content.proofs.ReadingLemmas.{leaf_read, ok_then}
use Rattle.head_content.proofs.leaves.push_stored.Goals as goal

pub returns : goal.returns
returns c =
    let element = c.args.element.now in
    let rules : List Rule = fields.field_rules (tag_of element) true in
    let own : List Rule → Left = λ all. both (only_attributes (attributes_left all (attributes_of element))) (leaf_left element) in
    let left : Left = own rules in
    ok_then c.push_own_text.result c.args.read.now c.leave_out.new.self c.push_own_text.new.read (only_left left) (only_items (stored_in element)) (leaf_of rules (stored_in element) element)
    (leaf_read left (stored_in element)) (c.leave_out.ensures left (c.own_left.ensures ∙ ap (λ (all : List Rule). shown (own all)) c.field_rules.ensures)) c.push_own_text.ensures
