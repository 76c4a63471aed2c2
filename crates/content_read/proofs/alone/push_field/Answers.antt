use Rattle.std.proofs.Common.{◌∙◌, map, sym}
use Rattle.markup_nodes.specs.Nodes.{elems}
use Rattle.doc_model.specs.declared.paragraph.What.TheVariants.{rolls-Field}
use Rattle.load_model.specs.Left.{attributes_of}
use Rattle.load_model.specs.declared.element.Element.{out-Element}
use Rattle.content_read.specs.Held.{held}
use Rattle.read_values.specs.Readings.{rule_of}
use Rattle.content_read.proofs.AddLemmas.{adds_is, if_ok}
use Rattle.content_read.proofs.AloneLemmas.{dropped_adds, leaf_what, field_is, field_lacks}
use Rattle.content_read.proofs.alone.push_field.Goals as goal

pub returns-in_ok-new-in-Some : goal.returns-in_ok-new-in-Some
returns-in_ok-new-in-Some c = if_ok c.push_leaf.result _ _ (λ left adds. λ model known around same.
    let element = c.args.element.now in
    adds_is c.args.items.now c.push_leaf.new.items left _ _
    (leaf_what (map rule_of c.field_rules.result.now) (attributes_of element) (elems (held model element)) around.spans _ _ (sym (rolls-Field c.in_ok-new-in-Some.field-0))
    ∙ field_is model element around c.keeps_reference-is_first.result c.in_ok-text.text c.get.result.now (c.keeps_reference-is_first.ensures ∙ known.kept.references (out-Element element).place) c.in_ok-text.ensures c.get.ensures
    (map rule_of c.field_rules.result.now) c.in-Some.field c.in_ok-new-in-Some.field-0 (sym c.in-Some.is ∙ c.in_ok-field.ensures) c.field_rules.ensures c.in_ok-new-in-Some.ensures)
    (adds model around same)) c.push_leaf.ensures

pub returns-in-None : goal.returns-in-None
returns-in-None c = λ model known around same.
    let element = c.args.element.now in
    dropped_adds c.args.items.now c.elements.result _
    (field_lacks model element around c.keeps_reference-is_first.result c.in_ok-text.text c.get.result.now (c.keeps_reference-is_first.ensures ∙ known.kept.references (out-Element element).place) c.in_ok-text.ensures c.get.ensures
    (sym c.in-None.is ∙ c.in_ok-field.ensures))
    c.elements.ensures
