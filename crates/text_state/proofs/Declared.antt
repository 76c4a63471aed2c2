-- A declared name is one of the parts other than the body and the styles.
use Rattle.std.proofs.Common.{◌≡◌, ℕ, List, refl}
use Rattle.doc_model.specs.declared.document.Document.{Document}
use Rattle.doc_model.specs.declared.edit.DeclKind.{DeclKind}
use Rattle.doc_model.specs.declared.edit.DeclKind.TheVariants as decl
use Rattle.edit_rules.specs.Edited.{with_declared}
use Rattle.text_state.specs.RestOf.{rest_of, with_name}

pub declared : (kind : DeclKind) (name : List ℕ) (doc : Document) → rest_of (with_declared kind name doc) ≡ with_name kind name (rest_of doc)
declared decl.Sequence name doc = refl
declared decl.Variable name doc = refl
