use Rattle.std.proofs.Common.{◌∙◌}
use Rattle.doc_texts.specs.declared.texts.ParText.{ParText}
use Rattle.doc_texts.specs.declared.reader.Reader.{Reader}
use Rattle.doc_texts.specs.Places.{placed_at}
use Rattle.doc_texts.specs.Behind.{gathered_behind, heads_of}
use Rattle.doc_texts.proofs.Kept.{gathered_is, read_more}
use Rattle.doc_texts.proofs.reader.Reader.read_par.Goals as goal

pub returns : goal.returns
returns c = λ before h.
    let lists = c.args.lists.now in
    let outline = c.args.outline.now in
    let par = c.args.par.now in
    let text : ParText = record { place = c.args.place; head = c.in_ok-head.head; label = c.in_ok-label.label; items = c.in_ok-items.items } in
    let now : Reader = record { texts = c.push.new.self; counts = c.label_of.new.counts } in
    let is = gathered_is lists outline before c.args.place par c.in_ok-head.head c.in_ok-label.label c.in_ok-items.items c.in_ok-head.ensures
    (c.in_ok-label.ensures.label (heads_of before) h.counted) (c.in_ok-items.ensures ∙ c.as_slice.ensures) in
    read_more lists before (gathered_behind lists outline before (placed_at c.args.place par)) text c.args.self.now now h is
    (c.in_ok-label.ensures.counted (heads_of before) h.counted) c.in_ok-push.ensures.items
