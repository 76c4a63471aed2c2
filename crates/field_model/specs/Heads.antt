-- What a document has in reading order, for labels and fields, which count what stands before them: the heads of paragraphs and their items. A note's paragraphs are read behind the note.
use Rattle.std.specs.Prelude.{List, ◌∷◌, map}
use Rattle.std.specs.List.{flat_map}
use Rattle.doc_model.specs.declared.paragraph.Par.{Par}
use Rattle.doc_model.specs.declared.paragraph.Item.{Item}
use Rattle.doc_model.specs.declared.paragraph.Note.{out-Note}
use Rattle.doc_model.specs.declared.document.Document.{Document}
use Rattle.doc_model.specs.Reading.{body_paragraphs, note_of}
use Rattle.doc_model.specs.Parts.{items_of}

-- what is read: that a paragraph begins, or an item of a paragraph
pub data Read : Type 0 where
  Head : (par : Par) → Read
  Of : (par : Par) (item : Item) → Read

-- a paragraph of a note, read
abbrev pub note_paragraph_read : Par → List Read
note_paragraph_read par = Head par ∷ map (Of par) (items_of par)

-- an item of a paragraph, and behind it the paragraphs of its note, if it is one
abbrev pub item_read : Par → Item → List Read
item_read par item = Of par item ∷ flat_map (λ note. flat_map note_paragraph_read (out-Note note).pars) (note_of item)

-- a paragraph of the body, read
abbrev pub paragraph_read : Par → List Read
paragraph_read par = Head par ∷ flat_map (item_read par) (items_of par)

-- all heads and items in reading order
abbrev pub all_read : Document → List Read
all_read doc = flat_map paragraph_read (body_paragraphs doc)
