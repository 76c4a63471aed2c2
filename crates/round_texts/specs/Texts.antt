-- Paragraphs of the body with their notes.
use Rattle.std.specs.Prelude.{◌≡◌, ℕ, List, map}
use Rattle.doc_model.specs.declared.paragraph.Par.{Par}
use Rattle.doc_model.specs.declared.paragraph.Item.{Item}
use Rattle.doc_model.specs.declared.paragraph.Note.{out-Note}
use Rattle.doc_model.specs.declared.document.Document.{Document}
use Rattle.doc_model.specs.Reading.{note_of}
use Rattle.format_model.specs.Standing.{BodyPar, NoteAt, body_pars, is_item_shown, notes_at}
use Rattle.format_model.specs.Keys.{InBody, standing_in_note}
use Rattle.round_pars.specs.Pairs.{Pairwise}
use Rattle.round_pars.specs.Pars.{AreRoundPars, IsRoundPar}
use Rattle.round_texts.specs.declared.notes.NoteText.{NoteText}
use Rattle.round_texts.specs.declared.bodies.BodyText.{BodyText}

-- the note that an item of a paragraph is, if it is one, where so many items and so many notes stand before it
abbrev pub own_notes : Document → Par → ℕ → ℕ → Item → List NoteAt
own_notes doc par at number item = map (λ note. record { note = note; number = number; item = at; is_shown = is_item_shown doc par item }) (note_of item)

-- a note of a paragraph of the body, with its paragraphs
pub record IsNoteText (doc : Document) (placed : BodyPar) (note : NoteAt) (text : NoteText) : Type 0 where
  pub class : text.class ≡ (out-Note note.note).class
  pub item : text.item ≡ note.item
  pub is_shown : text.is_shown ≡ note.is_shown
  pub pars : AreRoundPars doc (standing_in_note placed note) text.pars.now

-- notes of a paragraph of the body
abbrev pub AreNoteTexts : Document → BodyPar → List NoteAt → List NoteText → Type 0
AreNoteTexts doc placed = Pairwise (IsNoteText doc placed)

-- a paragraph of the body, with its notes
pub record IsBodyText (doc : Document) (placed : BodyPar) (text : BodyText) : Type 0 where
  pub hidden : text.in_hidden_section ≡ placed.in_hidden_section
  pub par : IsRoundPar doc (InBody placed) text.par.now
  pub notes : AreNoteTexts doc placed (notes_at doc placed.par) text.notes.items

-- all paragraphs of the body
abbrev pub AreBodyTexts : Document → List BodyText → Type 0
AreBodyTexts doc = Pairwise (IsBodyText doc) (body_pars doc)
