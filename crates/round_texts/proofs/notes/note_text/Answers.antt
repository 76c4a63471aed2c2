use Rattle.std.proofs.Common.{Bool, List, refl, ap, ◌∙◌}
use Rattle.std.specs.Prelude.{true, unwrap_or}
use Rattle.doc_model.specs.declared.paragraph.Note.{out-Note}
use Rattle.doc_model.specs.Reading.{note_of}
use Rattle.key_parts.specs.declared.parts.SpanDisplay.{SpanDisplay}
use Rattle.key_parts.specs.Displays.{displays_of}
use Rattle.key_parts.specs.Shows.{is_shown_in}
use Rattle.format_model.specs.Standing.{is_item_shown, props_of}
use Rattle.round_texts.specs.declared.notes.NoteText.{NoteText}
use Rattle.round_texts.proofs.OfNotes.{some_note}
use Rattle.round_texts.proofs.notes.note_text.Goals as goal

pub returns : goal.returns
returns c = λ doc placed number after displays otherwise h.
    let item = c.args.item.now in
    let note = c.in-Some.note.now in
    let text : NoteText = record { class = (out-Note note).class; item = c.args.at; is_shown = c.is_shown_in.result; pars = c.in_ok-pars.pars } in
    some_note doc placed (is_item_shown doc placed.par item) c.args.at number (note_of item) note after c.args.left.now.pars.now c.in_ok-pars.pars.now c.next_pars.new.self.pars.now text
    c.in-Some.ensures c.in_ok-pars.ensures.pars (c.in_ok-pars.ensures.count ∙ c.len.ensures) refl refl
    (c.is_shown_in.ensures ∙ ap (λ (x : List SpanDisplay). is_shown_in x c.args.otherwise c.get.result.now) displays ∙ ap (λ (x : Bool). is_shown_in (displays_of doc.styles) x c.get.result.now) otherwise
    ∙ ap (is_shown_in (displays_of doc.styles) (unwrap_or (props_of doc placed.par).display true)) c.get.ensures)
    refl h
