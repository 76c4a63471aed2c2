use Rattle.std.proofs.Common.{Bool, ◌&&◌, not, ap, sym, ◌∙◌}
use Rattle.edit_rules.specs.Places.{container_of, holds}
use Rattle.container_facts.proofs.Texts.{text_of_body, text_of_note}
use Rattle.container_checks.proofs.places.are_in_one_text.Goals as goal

pub returns-then-is_in_note-2 : goal.returns-then-is_in_note-2
returns-then-is_in_note-2 c = λ doc same apart live live_too.
    c.are_in_one_container.ensures doc same apart live live_too
    ∙ sym (text_of_note doc c.args.left c.args.right apart (sym (c.is_in_note.ensures doc same live) ∙ c.if-is_in_note.true)
    ∙ ap (λ (b : Bool). b && holds c.args.right.0 (container_of doc c.args.left)) (sym (c.is_in_note-then-is_in_note.ensures doc same live_too) ∙ c.if-is_in_note-2.true))

pub returns-else-is_in_note-2 : goal.returns-else-is_in_note-2
returns-else-is_in_note-2 c = λ doc same apart live live_too.
    c.if-is_in_note-2.false
    ∙ sym (text_of_note doc c.args.left c.args.right apart (sym (c.is_in_note.ensures doc same live) ∙ c.if-is_in_note.true)
    ∙ ap (λ (b : Bool). b && holds c.args.right.0 (container_of doc c.args.left)) (sym (c.is_in_note-then-is_in_note.ensures doc same live_too) ∙ c.if-is_in_note-2.false))

pub returns-else-is_in_note : goal.returns-else-is_in_note
returns-else-is_in_note c = λ doc same apart live live_too.
    ap not (c.is_in_note-else-is_in_note.ensures doc same live_too)
    ∙ sym (text_of_body doc c.args.left c.args.right apart live live_too (sym (c.is_in_note.ensures doc same live) ∙ c.if-is_in_note.false))
