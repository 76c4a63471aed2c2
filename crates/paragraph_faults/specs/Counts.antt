-- Paragraphs with the numbers of their items.
use Rattle.std.specs.Prelude.{List, [], map, length}
use Rattle.std.specs.List.{flat_map}
use Rattle.doc_model.specs.declared.block.Block.{Block}
use Rattle.doc_model.specs.declared.paragraph.Par.{Par}
use Rattle.doc_model.specs.declared.paragraph.Item.{Item, out-Item}
use Rattle.doc_model.specs.declared.paragraph.What.{What, out-What}
use Rattle.doc_model.specs.declared.paragraph.What.TheOpen.{What-F}
use Rattle.doc_model.specs.declared.paragraph.Note.{Note, out-Note}
use Rattle.doc_model.specs.Parts.{items_of}
use Rattle.doc_model.specs.Reading.{number_of, with_notes, block_paragraphs}
use Rattle.load_model.specs.Offences.{Counted}
use Rattle.paragraph_faults.specs.declared.counted.Counted.{Counted as Read}

-- what is kept of a paragraph
abbrev pub counted_of : Read → Counted
counted_of par = record { place = par.place; items = par.items }

-- a paragraph with the number of its items
abbrev pub count_of : Par → Counted
count_of par = record { place = number_of par; items = length (items_of par) }

-- the paragraphs of what an item is, if it is a note
abbrev pub what_counts : What-F What Item Note Par → List Counted
what_counts (What-F.Note note) = map count_of (out-Note note).pars
what_counts _ = []

-- the paragraphs of an item, if it is a note
abbrev pub note_counts : Item → List Counted
note_counts item = what_counts (out-What (out-Item item).what)

-- the paragraphs of a block and of the notes in it
abbrev pub block_counts : Block → List Counted
block_counts block = map count_of (flat_map with_notes (block_paragraphs block))
