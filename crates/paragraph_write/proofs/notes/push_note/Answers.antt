-- What stands before the paragraphs, the paragraphs, and what stands behind them.
use Rattle.std.proofs.Common.{◌≡◌, ◌++◌, ℕ, Bool, List, OnOk, map, ap, ◌∙◌, subst}
use Rattle.std.specs.Str.{chars}
use Rattle.std.specs.String.{string_bytes}
use Rattle.doc_model.specs.declared.paragraph.Note.{out-Note}
use Rattle.doc_model.specs.declared.paragraph.Par.{Par}
use Rattle.spelling_model.specs.Spelling.{is_there}
use Rattle.tree_text.specs.Writing.{content_text}
use Rattle.written_model.specs.Blocks.{paragraph}
use Rattle.content_write.specs.Rest.{no_note}
use Rattle.value_write.proofs.ChainLemmas.{three}
use Rattle.paragraph_write.specs.Around.{note_start, note_end}
use Rattle.paragraph_write.proofs.ParagraphLemmas.{note_text}
use Rattle.paragraph_write.proofs.notes.push_note.Goals as goal

pub returns : goal.returns
returns c =
    let note = out-Note c.args.note.now in
    let old = chars (string_bytes c.args.out.now) in
    let before = chars (string_bytes c.push_note_start.new.out) in
    let inside = chars (string_bytes c.push_paragraphs.new.out) in
    let holds : c.holds-some.result ≡ is_there note.pars = c.holds-some.ensures ∙ ap is_there c.as_slice-pars.ensures in
    three c.push_note_end.result (chars (string_bytes c.push_note_end.new.out)) inside before old
    (note_start note.id note.class (is_there note.pars)) (content_text (map (paragraph no_note) note.pars)) (note_end (is_there note.pars))
    (c.in_ok-push_note_start.ensures
    ∙ (ap (λ (id : List ℕ). old ++ note_start id note.class c.holds-some.result) c.get.ensures ∙ ap (λ (some : Bool). old ++ note_start note.id note.class some) holds))
    (c.in_ok-push_paragraphs.ensures ∙ ap (λ (pars : List Par). before ++ content_text (map (paragraph no_note) pars)) c.as_slice-pars.ensures)
    (subst (λ (some : Bool). OnOk c.push_note_end.result (chars (string_bytes c.push_note_end.new.out) ≡ inside ++ note_end some)) holds c.push_note_end.ensures)
    (note_text c.args.note.now)
