-- The paragraphs and sections of a document told by its rows.
use Rattle.std.specs.Prelude.{List, [], ◌∷◌, map}
use Rattle.doc_model.specs.declared.paragraph.Par.{Par, out-Par}
use Rattle.doc_model.specs.declared.paragraph.ParHead.{ParHead}
use Rattle.doc_model.specs.declared.paragraph.Item.{Item}
use Rattle.doc_model.specs.Parts.{SectionHead}
use Rattle.node_array.specs.declared.row.SectionHead.{SectionHead as RowHead}
use Rattle.node_array.specs.declared.row.Row.{Row}
use Rattle.node_array.specs.declared.row.Row.TheVariants as row
use Rattle.paragraph_rows.specs.OwnRow.{bare, head_of}

-- a paragraph as its row has it: without the paragraphs of its notes
pub record BarePar : Type 0 where
  pub head : ParHead
  pub items : List Item

-- a paragraph as its row has it
abbrev pub bare_of : Par → BarePar
bare_of par = record { head = head_of par; items = map bare (out-Par par).items }

-- the paragraph that a row is, if it is one
abbrev pub paragraph_in : Row → List BarePar
paragraph_in (row.Start head) = []
paragraph_in row.End = []
paragraph_in (row.Par head items) = record { head = head; items = items } ∷ []
paragraph_in row.NoteText = []

-- the section that a row begins, if it begins one
abbrev pub section_in : Row → List RowHead
section_in (row.Start head) = head ∷ []
section_in row.End = []
section_in (row.Par head items) = []
section_in row.NoteText = []

-- a section as the row that begins it has it: without the count of its blocks
abbrev pub row_head : SectionHead → RowHead
row_head section = record { kind = section.kind; name = section.name; style = section.style; protected = section.protected; hidden = section.hidden; source = section.source }
