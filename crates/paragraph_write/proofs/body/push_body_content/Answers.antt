-- Each note is written behind what stands before it.
use Rattle.std.proofs.Common.{◌++◌, List, ℕ, ap, ◌∙◌}
use Rattle.std.proofs.lemmas.List.{append-nil}
use Rattle.std.specs.Str.{chars}
use Rattle.std.specs.String.{string_bytes}
use Rattle.doc_model.specs.declared.paragraph.Item.{Item}
use Rattle.element_text.proofs.AddedLemmas.{more}
use Rattle.tree_text.specs.Writing.{child_text}
use Rattle.written_model.specs.Blocks.{note_element}
use Rattle.content_write.specs.Rest.{Left, all_left, left_text}
use Rattle.content_write.specs.Content.{left_of}
use Rattle.content_write.proofs.PieceLemmas.{some_is}
use Rattle.content_write.proofs.ContentWritten.{rest_written}
use Rattle.paragraph_write.proofs.body.push_body_content.Goals as goal

pub notes-init : goal.notes-init
notes-init c =
    let items : List Item = c.args.items.now in
    let old = chars (string_bytes c.args.out.now) in
    ap (λ (left : Left). old ++ left_text note_element left) c.new-content.ensures
    ∙ (ap (λ (all : List Item). old ++ left_text note_element (all_left all)) (append-nil items) ∙ ap (λ (t : List ℕ). old ++ t) (rest_written note_element items))

pub notes-preserved : goal.notes-preserved
notes-preserved c =
    more (chars (string_bytes c.push_note.new.out)) (chars (string_bytes c.push_up_to_note.new.out)) (child_text (note_element c.in-Some.note.now)) c.in_ok-push_note.ensures (left_text note_element (left_of c.in-Some.left))
    ∙ (some_is c.in_ok-note.field-0 (c.in-Some.note, c.in-Some.left) _ _ c.in-Some.is (c.in_ok-note.ensures.written note_element) ∙ c.notes.invariant)
