-- Each note is written as an element that holds nothing.
use Rattle.std.proofs.Common.{◌++◌, List, ap, ◌∙◌}
use Rattle.std.specs.Str.{chars}
use Rattle.std.specs.String.{string_bytes}
use Rattle.doc_model.specs.declared.paragraph.Item.{Item}
use Rattle.element_text.proofs.AddedLemmas.{more}
use Rattle.tree_text.specs.Writing.{child_text}
use Rattle.content_write.specs.Rest.{Left, left_text, no_note}
use Rattle.content_write.specs.Content.{left_of}
use Rattle.content_write.proofs.PieceLemmas.{some_is}
use Rattle.content_write.proofs.ContentWritten.{rest_written}
use Rattle.content_write.proofs.content.push_content.Goals as goal

pub notes-init : goal.notes-init
notes-init c =
    let items : List Item = c.args.first.now ++ c.args.second.now in
    ap (λ (left : Left). chars (string_bytes c.args.out.now) ++ left_text no_note left) c.new-content.ensures
    ∙ ap (λ t. chars (string_bytes c.args.out.now) ++ t) (rest_written no_note items)

pub notes-preserved : goal.notes-preserved
unfolding chars
notes-preserved c =
    more (chars (string_bytes c.push_bare.new.out)) (chars (string_bytes c.push_up_to_note.new.out)) (child_text (no_note c.in-Some.field-0-0.now)) c.in_ok-push_bare.ensures (left_text no_note (left_of c.in-Some.left))
    ∙ (some_is c.in_ok-left.field-0 (c.in-Some.field-0-0, c.in-Some.left) _ _ c.in-Some.is (c.in_ok-left.ensures.written no_note) ∙ c.notes.invariant)
