-- The parts of a paragraph without the paragraphs of notes, and the rows of these.
use Rattle.std.specs.Prelude.{List}
use Rattle.doc_model.specs.declared.paragraph.Item.{Item}
use Rattle.doc_model.specs.declared.paragraph.What.{What}
use Rattle.doc_model.specs.declared.paragraph.Note.{Note}
use Rattle.doc_model.specs.declared.paragraph.What.TheFolds.{fold-Item, fold-What, fold-Note}
use Rattle.doc_model.specs.declared.block.Section.{Section, out-Section, fold-Section}
use Rattle.node_array.specs.declared.row.Row.{Row}
use Rattle.node_array.specs.declared.row.SectionHead.{SectionHead}
use Rattle.node_array.specs.Rows.{of_what, of_item, of_note, of_par, of_block, of_section}

-- an item, with the rows of its note, if it is one
abbrev pub item_rows : Item → Item × List Row
item_rows = fold-Item (What × List Row) (Item × List Row) (Note × List Row) (List Row) of_what of_item of_note of_par

-- what an item is, with the rows of a note
abbrev pub what_rows : What → What × List Row
what_rows = fold-What (What × List Row) (Item × List Row) (Note × List Row) (List Row) of_what of_item of_note of_par

-- a note, with its rows
abbrev pub note_rows : Note → Note × List Row
note_rows = fold-Note (What × List Row) (Item × List Row) (Note × List Row) (List Row) of_what of_item of_note of_par

-- the rows of a section
abbrev pub section_rows : Section → List Row
section_rows = fold-Section (List Row) (List Row) of_block of_section

-- a section without its blocks
abbrev pub head_of : Section → SectionHead
head_of section = let s = out-Section section in record { kind = s.kind; name = s.name; style = s.style; protected = s.protected; hidden = s.hidden; source = s.source }
