-- What is out and what is left to write is what was out and all.
use Rattle.std.proofs.Common.{◌≡◌, ◌≤◌, ◌+◌, ◌++◌, length, chars, string_bytes}
use Rattle.markup_nodes.specs.declared.tree.Elem.{Elem}
use Rattle.markup_nodes.specs.Node.{Node}
use Rattle.doc_model.specs.declared.paragraph.Note.{Note}
use Rattle.content_write.specs.Rest.{rest_text, left_text}
use Rattle.content_write.specs.Content.{left_of}
use Rattle.content_write.proofs.content.Content.push_up_to_note.Given as goal

abbrev pub invariant-items : goal.invariant-items
invariant-items l = record {
  spelled : (note_node : Note → Node Elem) → chars (string_bytes l.out) ++ rest_text note_node l.around l.waiting l.after_word l.items ≡ chars (string_bytes l.fn.out) ++ left_text note_node (left_of l.fn.self);
  counted : l.waiting + length l.items ≤ length (left_of l.fn.self).items;
}

abbrev pub decreases-items : goal.decreases-items
decreases-items l = length l.items
