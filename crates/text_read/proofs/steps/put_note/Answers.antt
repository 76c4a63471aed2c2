use Rattle.std.proofs.Common.{◌∙◌, ap}
use Rattle.load_model.specs.Blocks.{left_by, note_rules, paragraphs_of}
use Rattle.load_model.specs.Left.{Left, attributes_of, both, children, nothing}
use Rattle.block_parts.specs.Notes.{left_in}
use Rattle.block_parts.specs.Values.{note_by}
use Rattle.text_read.specs.Walk.{body_in}
use Rattle.text_read.proofs.NoteLemmas.{note_added}
use Rattle.text_read.proofs.steps.put_note.Goals as goal

pub returns : goal.returns
returns c = λ model first_is held.
    let element = c.args.element.now in
    let attributes = attributes_of element in
    let own : Left = left_by (note_rules c.args.is_first) attributes in
    let others : Left = left_in (children element) in
    note_added model element c.args.spans.now c.args.is_first c.args.items.now c.push_note.new.items c.both-left.result c.in_ok-note.note c.args.body.blocks.items first_is held.blocks_are
    (c.in_ok-note.ensures ∙ ap (note_by c.args.is_first attributes) (c.in_ok-paragraphs_in.ensures ∙ ap paragraphs_of c.in_ok-blocks.ensures))
    (c.both-left.ensures (both (both nothing own) others) (body_in element model).left
    (c.both-2.ensures (both nothing own) others (c.both.ensures nothing own c.nothing.ensures c.note_attributes_left.ensures) c.note_left.ensures) held.left_is)
    c.in_ok-push_note.ensures
