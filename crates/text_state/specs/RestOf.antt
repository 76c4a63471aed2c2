-- The parts of a document other than its body, its default style and its styles.
use Rattle.std.specs.Prelude.{ℕ, List, [], ◌∷◌, ◌++◌}
use Rattle.doc_model.specs.declared.edit.DeclKind.{DeclKind}
use Rattle.doc_model.specs.declared.edit.DeclKind.TheVariants as decl
use Rattle.doc_model.specs.declared.document.Document.{Document}
use Rattle.text_state.specs.declared.rest.RestParts.{RestParts}

-- those of a document
abbrev pub rest_of : Document → RestParts
rest_of doc = record {
  global = doc.global;
  lists = doc.lists;
  outline = doc.outline;
  layouts = doc.layouts;
  masters = doc.masters;
  variables = doc.variables;
  sequences = doc.sequences;
  counting = doc.counting;
}

-- the parts with one more declared name, the last of its kind
abbrev pub with_name : DeclKind → List ℕ → RestParts → RestParts
with_name decl.Sequence name rest = record rest { sequences = rest.sequences ++ name ∷ [] }
with_name decl.Variable name rest = record rest { variables = rest.variables ++ name ∷ [] }
