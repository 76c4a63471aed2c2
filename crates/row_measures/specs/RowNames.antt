-- The names that stand in rows, and those that stand elsewhere in a document.
use Rattle.std.specs.Prelude.{ℕ, List, [], ◌∷◌, ◌++◌, map, length, Option, Some, None}
use Rattle.std.specs.List.{flat_map}
use Rattle.doc_model.specs.declared.block.SectionSource.{SectionSource}
use Rattle.doc_model.specs.declared.document.Document.{Document}
use Rattle.doc_model.specs.declared.paragraph.Item.{Item, out-Item}
use Rattle.doc_model.specs.declared.paragraph.ListPos.{ListPos}
use Rattle.doc_model.specs.declared.paragraph.Note.{out-Note}
use Rattle.doc_model.specs.Limits.{greatest}
use Rattle.doc_model.specs.Parts.{field_of, mark_of, mark_name, names_of_field, names_of_style}
use Rattle.doc_model.specs.Reading.{note_of}
use Rattle.node_array.specs.declared.row.Row.{Row}
use Rattle.node_array.specs.declared.row.Row.TheVariants as row
use Rattle.row_measures.specs.RowCounts.{items_in}

-- the names of the file that a section comes from
abbrev pub source_names : Option SectionSource → List (List ℕ)
source_names None = []
source_names (Some source) = source.href ∷ source.section ∷ []

-- the list style of a place in a list
abbrev pub list_names : Option ListPos → List (List ℕ)
list_names None = []
list_names (Some place) = place.style ∷ []

-- the names of a row without those of its items
abbrev pub head_names : Row → List (List ℕ)
head_names (row.Start head) = head.name ∷ head.style ∷ source_names head.source
head_names row.End = []
head_names (row.Par head items) = head.style ∷ list_names head.list
head_names row.NoteText = []

-- the names of items: their spans, fields, marks and notes
abbrev pub span_names : List Item → List (List ℕ)
span_names items = flat_map (λ item. (out-Item item).spans) items

abbrev pub field_names : List Item → List (List ℕ)
field_names items = flat_map names_of_field (flat_map field_of items)

abbrev pub mark_names : List Item → List (List ℕ)
mark_names items = map mark_name (flat_map mark_of items)

abbrev pub note_names : List Item → List (List ℕ)
note_names items = map (λ note. (out-Note note).id) (flat_map note_of items)

-- the names of a row
abbrev pub names_in : Row → List (List ℕ)
names_in one = head_names one ++ (span_names (items_in one) ++ (field_names (items_in one) ++ (mark_names (items_in one) ++ note_names (items_in one))))

-- the names of the parts of a document other than its body
abbrev pub other_names : Document → List (List ℕ)
other_names doc = flat_map names_of_style doc.styles
    ++ map (λ list. list.name) doc.lists
    ++ doc.outline.name ∷ map (λ layout. layout.name) doc.layouts
    ++ flat_map (λ master. master.name ∷ master.layout ∷ master.next ∷ []) doc.masters
    ++ doc.variables ++ doc.sequences

-- the greatest length of some names
abbrev pub longest : List (List ℕ) → ℕ
longest names = greatest (map length names)
