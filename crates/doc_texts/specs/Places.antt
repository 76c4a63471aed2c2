-- The paragraphs of a document, each with where it is gathered, in the order in which they are gathered: those of notes behind the one of the body that has the notes.
use Rattle.std.specs.Prelude.{ℕ, ◌+◌, List, [], ◌∷◌, ◌++◌, map}
use Rattle.doc_model.specs.declared.paragraph.Par.{Par}
use Rattle.doc_model.specs.declared.paragraph.Note.{Note, out-Note}
use Rattle.doc_model.specs.Reading.{notes_of}
use Rattle.field_model.specs.declared.gathered.Gathered.{Gathered}
use Rattle.field_model.specs.declared.gathered.Gathered.TheVariants as place
use Rattle.format_model.specs.Standing.{BodyPar}
use Rattle.doc_texts.specs.declared.places.BodyPlace.{BodyPlace}

-- a paragraph of the body that is lent
abbrev pub body_par : BodyPlace → BodyPar
body_par lent = record { par = lent.par.now; in_hidden_section = lent.in_hidden_section }

-- a paragraph, and where it is gathered
pub record PlacedPar : Type 0 where
  pub place : Gathered
  pub par : Par

abbrev pub placed_at : Gathered → Par → PlacedPar
placed_at place par = record { place = place; par = par }

-- the paragraphs of a note of a number
abbrev pub in_note : ℕ → Note → List PlacedPar
in_note number note = map (placed_at (place.Note number)) (out-Note note).pars

-- the paragraphs of notes, of which the first has this number
abbrev pub in_notes : ℕ → List Note → List PlacedPar
in_notes number [] = []
in_notes number (note ∷ notes) = in_note number note ++ in_notes (number + 1) notes

-- a paragraph of the body, and then those of its notes
abbrev pub with_notes : Par → List PlacedPar
with_notes par = placed_at place.Body par ∷ in_notes 1 (notes_of par)
