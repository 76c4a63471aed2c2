use Rattle.std.proofs.Common.{◌∙◌, [], sym}
use Rattle.markup_nodes.specs.Nodes.{elems}
use Rattle.doc_model.specs.declared.paragraph.What.TheVariants.{rolls-Tab, rolls-Break}
use Rattle.load_model.specs.Left.{attributes_of}
use Rattle.load_model.specs.declared.names.Tag.TheVariants as tag
use Rattle.load_model.specs.declared.element.Element.{out-Element}
use Rattle.content_read.specs.Held.{held}
use Rattle.content_read.proofs.AddLemmas.{adds_is, if_ok}
use Rattle.content_read.proofs.HeldLemmas.{content_out}
use Rattle.content_read.proofs.AloneLemmas.{at_tag, leaf_what, content_field, content_dropped, dropped_adds}
use Rattle.content_read.proofs.alone.push_alone.Goals as goal

pub returns-in-Spaces : goal.returns-in-Spaces
returns-in-Spaces c = if_ok c.push_counted.result _ _ (λ left adds. λ model known around same.
    adds_is c.args.items.now c.push_counted.new.items left _ _ (at_tag model c.args.element.now around tag.Spaces c.in-Spaces.is) (adds model around same)) c.push_counted.ensures

pub returns-in-Tab : goal.returns-in-Tab
returns-in-Tab c = if_ok c.push_leaf.result _ _ (λ left adds. λ model known around same.
    adds_is c.args.items.now c.push_leaf.new.items left _ _
    (leaf_what [] (attributes_of c.args.element.now) (elems (held model c.args.element.now)) around.spans _ _ (sym rolls-Tab) ∙ at_tag model c.args.element.now around tag.Tab c.in-Tab.is) (adds model around same)) c.push_leaf.ensures

pub returns-in-LineBreak : goal.returns-in-LineBreak
returns-in-LineBreak c = if_ok c.push_leaf-in-LineBreak.result _ _ (λ left adds. λ model known around same.
    adds_is c.args.items.now c.push_leaf-in-LineBreak.new.items left _ _
    (leaf_what [] (attributes_of c.args.element.now) (elems (held model c.args.element.now)) around.spans _ _ (sym rolls-Break) ∙ at_tag model c.args.element.now around tag.LineBreak c.in-LineBreak.is) (adds model around same)) c.push_leaf-in-LineBreak.ensures

pub returns-in-Bookmark : goal.returns-in-Bookmark
returns-in-Bookmark c = if_ok c.push_mark.result _ _ (λ left adds. λ model known around same.
    adds_is c.args.items.now c.push_mark.new.items left _ _ (at_tag model c.args.element.now around tag.Bookmark c.in-Bookmark.is) (adds model known around same)) c.push_mark.ensures

pub returns-in-BookmarkStart : goal.returns-in-BookmarkStart
returns-in-BookmarkStart c = if_ok c.push_mark-in-BookmarkStart.result _ _ (λ left adds. λ model known around same.
    adds_is c.args.items.now c.push_mark-in-BookmarkStart.new.items left _ _ (at_tag model c.args.element.now around tag.BookmarkStart c.in-BookmarkStart.is) (adds model known around same)) c.push_mark-in-BookmarkStart.ensures

pub returns-in-BookmarkEnd : goal.returns-in-BookmarkEnd
returns-in-BookmarkEnd c = if_ok c.push_mark-in-BookmarkEnd.result _ _ (λ left adds. λ model known around same.
    adds_is c.args.items.now c.push_mark-in-BookmarkEnd.new.items left _ _ (at_tag model c.args.element.now around tag.BookmarkEnd c.in-BookmarkEnd.is) (adds model known around same)) c.push_mark-in-BookmarkEnd.ensures

pub returns-then-is_field : goal.returns-then-is_field
returns-then-is_field c = if_ok c.push_field.result _ _ (λ left adds. λ model known around same.
    let element = c.args.element.now in
    adds_is c.args.items.now c.push_field.new.items left _ _
    (content_field model (out-Element element).place (attributes_of element) (held model element) around (out-Element element).tag (sym c.is_field.ensures ∙ c.if-is_field.true) ∙ sym (content_out model element around))
    (adds model known around same)) c.push_field.ensures

pub returns-else-is_field : goal.returns-else-is_field
returns-else-is_field c = λ model known around same.
    let element = c.args.element.now in
    let n = c.in_default in
    dropped_adds c.args.items.now c.elements.result _
    (content_out model element around ∙ content_dropped model (out-Element element).place (attributes_of element) (held model element) around (out-Element element).tag c.requires (sym c.is_field.ensures ∙ c.if-is_field.false)
    n.not-Spaces n.not-Tab n.not-LineBreak n.not-Bookmark n.not-BookmarkStart n.not-BookmarkEnd)
    c.elements.ensures
