-- Reading order goes through the body from front to back. At a note item the note's paragraphs are read.
use Rattle.std.specs.Prelude.{◌≡◌, ℕ, ◌+◌, List, [], ◌∷◌, map, length, zero, suc}
use Rattle.std.specs.List.{flat_map}
use Rattle.doc_model.specs.declared.block.Block.{Block, fold-Block}
use Rattle.doc_model.specs.declared.block.Block.TheOpen.{Block-F, Section-F}
use Rattle.doc_model.specs.declared.paragraph.Par.{Par, out-Par}
use Rattle.doc_model.specs.declared.paragraph.Item.{Item, out-Item}
use Rattle.doc_model.specs.declared.paragraph.What.{What, out-What}
use Rattle.doc_model.specs.declared.paragraph.What.TheOpen.{What-F}
use Rattle.doc_model.specs.declared.paragraph.Note.{Note, out-Note}
use Rattle.doc_model.specs.declared.document.Document.{Document}

-- the paragraphs of a block: itself, or those of the section's blocks
abbrev pub block_paragraphs : Block → List Par
block_paragraphs = fold-Block (List Par) (List Par) of_block of_section where
  of_block : Block-F (List Par) (List Par) → List Par
  of_block (Block-F.Par par) = par ∷ []
  of_block (Block-F.Section paragraphs) = paragraphs

  of_section : Section-F (List Par) (List Par) → List Par
  of_section section = flat_map (λ paragraphs. paragraphs) section.blocks

-- the paragraphs of the body in reading order, without those of notes
abbrev pub body_paragraphs : Document → List Par
body_paragraphs doc = flat_map block_paragraphs doc.body

-- the note that an item is, if it is one
abbrev pub note_of : Item → List Note
note_of item = of_what (out-What (out-Item item).what) where
  of_what : What-F What Item Note Par → List Note
  of_what (What-F.Note note) = note ∷ []
  of_what _ = []

-- the notes of a paragraph, in order
abbrev pub notes_of : Par → List Note
notes_of par = flat_map note_of (out-Par par).items

-- a paragraph, and then those of its notes
abbrev pub with_notes : Par → List Par
with_notes par = par ∷ flat_map (λ note. (out-Note note).pars) (notes_of par)

-- all paragraphs of the document in reading order
abbrev pub paragraphs : Document → List Par
paragraphs doc = flat_map with_notes (body_paragraphs doc)

-- the number of a paragraph
abbrev pub number_of : Par → ℕ
number_of par = (out-Par par).id.0

-- so many numbers in order, from the given one on
abbrev pub upwards : ℕ → ℕ → List ℕ
upwards first zero = []
upwards first (suc count) = first ∷ upwards (first + 1) count

-- the paragraphs are numbered from 1 in reading order
abbrev pub IsNumberedFromOne : Document → Type 0
IsNumberedFromOne doc = map number_of (paragraphs doc) ≡ upwards 1 (length (paragraphs doc))
