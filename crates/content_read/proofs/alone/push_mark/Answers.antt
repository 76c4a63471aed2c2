use Rattle.std.proofs.Common.{[], ◌∷◌, ◌∙◌, sym, ap}
use Rattle.markup_nodes.specs.Nodes.{elems}
use Rattle.doc_model.specs.declared.paragraph.What.TheVariants.{rolls-Mark}
use Rattle.load_model.specs.declared.names.Key.TheVariants as key
use Rattle.load_model.specs.declared.element.Attribute.{Attribute}
use Rattle.load_model.specs.declared.element.Element.{out-Element}
use Rattle.load_model.specs.Left.{attributes_of}
use Rattle.load_model.specs.Values as value
use Rattle.load_model.specs.Values.{rule, stated_or}
use Rattle.std.proofs.Common.{List, ℕ}
use Rattle.content_read.specs.Held.{held}
use Rattle.content_read.specs.Marks.{mark_of}
use Rattle.content_read.proofs.AddLemmas.{adds_is, if_ok}
use Rattle.content_read.proofs.AloneLemmas.{dropped_adds, leaf_what, mark_is, mark_dropped}
use Rattle.content_read.proofs.alone.push_mark.Goals as goal

pub returns-then-not-keeps_mark : goal.returns-then-not-keeps_mark
returns-then-not-keeps_mark c = λ model known around same.
    let element = c.args.element.now in
    dropped_adds c.args.items.now c.elements.result _
    (mark_dropped model around (out-Element element).place (mark_of c.args.kind) (attributes_of element) (elems (held model element))
    (sym (c.keeps_mark.ensures ∙ known.kept.marks (out-Element element).place) ∙ c.if-not-keeps_mark.true))
    c.elements.ensures

pub returns : goal.returns
returns c = if_ok c.push_leaf.result _ _ (λ left adds. λ model known around same.
    let element = c.args.element.now in
    let named : List Attribute → List ℕ = λ attributes. stated_or key.TextName value.name [] attributes in
    adds_is c.args.items.now c.push_leaf.new.items left _ _
    (leaf_what (rule key.TextName value.name ∷ []) (attributes_of element) (elems (held model element)) around.spans _ _ (sym (rolls-Mark c.in_ok-mark.mark))
    ∙ mark_is model around (out-Element element).place (mark_of c.args.kind) (attributes_of element) (elems (held model element)) c.in_ok-mark.mark
    (sym (c.keeps_mark.ensures ∙ known.kept.marks (out-Element element).place) ∙ c.if-not-keeps_mark.false)
    (c.in_ok-mark.ensures ∙ c.mark_with.ensures ∙ ap (mark_of c.args.kind) (c.in_ok-name.ensures ∙ ap named c.get.ensures)))
    (adds model around same)) c.push_leaf.ensures
