-- The document that is edited, put together from its parts, and its next paragraph number.
use Rattle.std.specs.Prelude.{ℕ, ◌+◌, List}
use Rattle.std.specs.List.{flat_map}
use Rattle.doc_model.specs.declared.block.Block.{Block}
use Rattle.doc_model.specs.declared.document.Document.{Document}
use Rattle.doc_model.specs.Limits.{greatest}
use Rattle.edit_rules.specs.Edited.{Edited}
use Rattle.node_array.specs.Rows.{rows_of}
use Rattle.paragraph_rows.specs.Standing.{number_in}
use Rattle.style_model.specs.Changes.{StyleSheet}
use Rattle.text_state.specs.declared.rest.RestParts.{RestParts}

-- the document of a body, a default style with styles, and the other parts
abbrev pub document_of : RestParts → StyleSheet → List Block → Document
document_of rest sheet body = record {
  global = rest.global;
  defaults = sheet.defaults;
  styles = sheet.styles;
  lists = rest.lists;
  outline = rest.outline;
  layouts = rest.layouts;
  masters = rest.masters;
  variables = rest.variables;
  sequences = rest.sequences;
  counting = rest.counting;
  body = body;
}

-- the greatest number of a paragraph of a body, those of notes included
abbrev pub greatest_number : List Block → ℕ
greatest_number body = greatest (flat_map number_in (rows_of body))

-- a document that was not edited yet: its next paragraph number is one above the greatest
abbrev pub unedited : Document → Edited
unedited doc = record { document = doc; next = greatest_number doc.body + 1 }
