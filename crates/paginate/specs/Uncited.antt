-- Body rows before the rows of footnotes are added to them.
use Rattle.std.specs.Prelude.{ℕ, ◌+◌, List, [], ◌∷◌, ◌++◌, length, zero, suc, Option, Some, None}
use Rattle.doc_model.specs.declared.page_layout.Master.{Master}
use Rattle.page_model.specs.declared.placed.ParRows.{ParRows}
use Rattle.page_model.specs.declared.placed.NoteRows.{NoteRows}
use Rattle.page_model.specs.declared.row.Row.{Row}
use Rattle.page_model.specs.declared.row.NoteRow.{NoteRow}
use Rattle.page_model.specs.BodyRows.{row_of, rows_of_note}

-- a row without the rows of footnotes
abbrev pub uncited : Row → Row
uncited row = record row { notes = [] }

-- the rows of lines of a paragraph behind so many others, without the rows of footnotes
abbrev pub uncited_rows : List Master → ℕ → ParRows → ℕ → List (List ℕ) → List Row
uncited_rows masters place par before [] = []
uncited_rows masters place par before (text ∷ more) = uncited (row_of masters place par before (length more) text) ∷ uncited_rows masters place par (before + 1) more

-- a row with note rows behind its own
abbrev pub with_notes : List NoteRow → Row → Row
with_notes notes row = record row { notes = row.notes ++ notes }

-- rows with note rows added to the one at a place
abbrev pub added_at : ℕ → List NoteRow → List Row → List Row
added_at place notes [] = []
added_at zero notes (row ∷ rows) = with_notes notes row ∷ rows
added_at (suc place) notes (row ∷ rows) = row ∷ added_at place notes rows

-- rows with the rows of a footnote added to the line of its citation, if it has one
abbrev pub cited_at : Option ℕ → List NoteRow → List Row → List Row
cited_at None notes rows = rows
cited_at (Some line) notes rows = added_at line notes rows

-- rows with the rows of footnotes added one after another. The first of their paragraphs has this place
abbrev pub cited : ℕ → List NoteRows → List Row → List Row
cited place [] rows = rows
cited place (note ∷ notes) rows = cited (place + length note.pars) notes (cited_at note.line (rows_of_note place note.pars) rows)
