-- The row of a paragraph itself, and those of its notes.
use Rattle.std.specs.Prelude.{List, [], ◌∷◌, ◌++◌, map}
use Rattle.std.specs.List.{flat_map}
use Rattle.doc_model.specs.declared.paragraph.Par.{Par, out-Par}
use Rattle.doc_model.specs.declared.paragraph.ParHead.{ParHead}
use Rattle.doc_model.specs.declared.paragraph.Item.{Item}
use Rattle.doc_model.specs.declared.paragraph.What.{What}
use Rattle.doc_model.specs.declared.paragraph.Note.{Note, out-Note}
use Rattle.doc_model.specs.declared.paragraph.What.TheFolds.{fold-Item}
use Rattle.doc_model.specs.Reading.{notes_of}
use Rattle.node_array.specs.declared.row.Row.{Row}
use Rattle.node_array.specs.declared.row.Row.TheVariants as row
use Rattle.node_array.specs.Rows.{of_what, of_item, of_note, of_par, par_rows}

-- an item as it stands in a row: a note without its paragraphs
abbrev pub bare : Item → Item
bare item = (fold-Item (What × List Row) (Item × List Row) (Note × List Row) (List Row) of_what of_item of_note of_par item).0

-- a paragraph without its items
abbrev pub head_of : Par → ParHead
head_of par = record { id = (out-Par par).id; style = (out-Par par).style; level = (out-Par par).level; list = (out-Par par).list }

-- a paragraph's own row
abbrev pub own_row : Par → Row
own_row par = row.Par (head_of par) (map bare (out-Par par).items)

-- the rows of a note
abbrev pub text_rows : Note → List Row
text_rows note = row.NoteText ∷ (flat_map par_rows (out-Note note).pars ++ row.End ∷ [])

-- the rows of the notes of a paragraph
abbrev pub rows_of_notes : Par → List Row
rows_of_notes par = flat_map text_rows (notes_of par)
