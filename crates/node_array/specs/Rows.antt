-- The rows that a body is written in: one for each paragraph, and two round the content of each section and of each note.
use Rattle.std.specs.Prelude.{List, [], ◌∷◌, ◌++◌, map}
use Rattle.std.specs.List.{flat_map}
use Rattle.doc_model.specs.declared.block.Block.{Block, fold-Block}
use Rattle.doc_model.specs.declared.block.Block.TheOpen.{Block-F, Section-F}
use Rattle.doc_model.specs.declared.paragraph.Par.{Par}
use Rattle.doc_model.specs.declared.paragraph.Item.{Item, roll-Item}
use Rattle.doc_model.specs.declared.paragraph.What.{What, roll-What}
use Rattle.doc_model.specs.declared.paragraph.Note.{Note, roll-Note}
use Rattle.doc_model.specs.declared.paragraph.What.TheOpen.{What-F, Item-F, Note-F, Par-F}
use Rattle.doc_model.specs.declared.paragraph.What.TheFolds.{fold-Par}
use Rattle.node_array.specs.declared.row.Row.{Row}
use Rattle.node_array.specs.declared.row.Row.TheVariants as row

-- what a part of a paragraph comes to: the part with notes that have lost their paragraphs, and the rows of its notes
abbrev pub of_what : What-F (What × List Row) (Item × List Row) (Note × List Row) (List Row) → What × List Row
of_what (What-F.Char c) = (roll-What (What-F.Char c), [])
of_what What-F.Tab = (roll-What What-F.Tab, [])
of_what What-F.Break = (roll-What What-F.Break, [])
of_what (What-F.Field field) = (roll-What (What-F.Field field), [])
of_what (What-F.Note note) = (roll-What (What-F.Note note.0), note.1)
of_what (What-F.Mark mark) = (roll-What (What-F.Mark mark), [])

abbrev pub of_item : Item-F (What × List Row) (Item × List Row) (Note × List Row) (List Row) → Item × List Row
of_item item = (roll-Item (record { spans = item.spans; what = item.what.0 }), item.what.1)

-- a note's rows are NoteText, those of its paragraphs, and End
abbrev pub of_note : Note-F (What × List Row) (Item × List Row) (Note × List Row) (List Row) → Note × List Row
of_note note = (roll-Note (record { id = note.id; class = note.class; pars = [] }), row.NoteText ∷ (flat_map (λ rows. rows) note.pars ++ row.End ∷ []))

-- a paragraph's rows are its own, which has the items, and behind it those of its notes in order
abbrev pub of_par : Par-F (What × List Row) (Item × List Row) (Note × List Row) (List Row) → List Row
of_par par = row.Par (record { id = par.id; style = par.style; level = par.level; list = par.list }) (map (λ item. item.0) par.items) ∷ flat_map (λ item. item.1) par.items

-- the rows of a paragraph
abbrev pub par_rows : Par → List Row
par_rows = fold-Par (What × List Row) (Item × List Row) (Note × List Row) (List Row) of_what of_item of_note of_par

-- a section's rows are its Start, those of its blocks, and End
abbrev pub of_section : Section-F (List Row) (List Row) → List Row
of_section section = row.Start (record { kind = section.kind; name = section.name; style = section.style; protected = section.protected; hidden = section.hidden; source = section.source }) ∷ (flat_map (λ rows. rows) section.blocks ++ row.End ∷ [])

abbrev pub of_block : Block-F (List Row) (List Row) → List Row
of_block (Block-F.Par par) = par_rows par
of_block (Block-F.Section rows) = rows

-- the rows of a block
abbrev pub block_rows : Block → List Row
block_rows = fold-Block (List Row) (List Row) of_block of_section

-- the rows of a body: those of its blocks in order
abbrev pub rows_of : List Block → List Row
rows_of body = flat_map block_rows body
