use Rattle.std.proofs.Common.{◌≡◌, ◌+◌, ◌++◌, ℕ, List, length, take, sym, ap, subst, ◌∙◌, length-append}
use Rattle.std.specs.List.{flat_map}
use Rattle.doc_model.specs.declared.paragraph.Note.{Note}
use Rattle.doc_model.specs.Reading.{note_of}
use Rattle.field_model.specs.Gathered.{GatheredPar}
use Rattle.doc_texts.specs.Places.{in_notes}
use Rattle.doc_texts.specs.Behind.{all_behind}
use Rattle.doc_texts.specs.Holds.{HasRead}
use Rattle.doc_texts.proofs.Parts.{notes_behind}
use Rattle.doc_texts.proofs.Steps.{flat_more, take_item}
use Rattle.doc_texts.proofs.reader.Reader.read_notes.Goals as goal

pub loop-item-preserved : goal.loop-item-preserved
loop-item-preserved c =
    let lists = c.args.lists.now in
    let outline = c.args.outline.now in
    let items = c.args.items.now in
    let index = c.loop-item.item-index in
    let item = c.item-item.result in
    let front = flat_map note_of (take index items) in
    let own = note_of item in
    let now = c.read_item.new.self in
    let counted = c.loop-item.invariant.0 in
    let notes : front ++ own ≡ flat_map note_of (take (index + 1) items) =
    flat_more note_of (take index items) (take (index + 1) items) item (take_item items index item c.item-item.is c.loop-item-test.true) in (
      c.in_ok-number.ensures.number ∙ ap (λ (n : ℕ). n + length own) counted ∙ sym (length-append front own) ∙ ap length notes,
      λ before h.
          let behind = all_behind lists outline before (in_notes 1 front) in
          let read = c.in_ok-number.ensures.read behind (c.loop-item.invariant.1 before h) in
          let next = subst (λ (n : ℕ). HasRead lists (all_behind lists outline behind (in_notes (n + 1) own)) now) counted read in
          subst (λ (notes : List Note). HasRead lists (all_behind lists outline before (in_notes 1 notes)) now) notes
          (subst (λ (all : List GatheredPar). HasRead lists all now) (notes_behind lists outline front own before) next),
    )
