-- What a tree is read as, if it is that of a document.
use Rattle.std.specs.Prelude.{◌≡◌, false, true}
use Rattle.std.specs.List.{flat_map}
use Rattle.doc_model.specs.Alike.{IsAlike}
use Rattle.doc_model.specs.declared.document.Document.{Document}
use Rattle.load_model.specs.declared.element.Element.{Element}
use Rattle.load_model.specs.Headers as head
use Rattle.load_model.specs.Loaded.{declared_names, draft_of, met_of}
use Rattle.load_model.specs.Styles as sheet
use Rattle.back_met.specs.Things.{AreMet, IsMet, block_things}

-- the parts of the document are read from the tree, and its things are met in it
pub record IsReadOf (doc : Document) (root : Element) : Type 0 where
  pub styles : sheet.styles (sheet.names_of root) root ≡ doc.styles
  pub lists : sheet.list_styles root ≡ doc.lists
  pub layouts : sheet.layouts root ≡ doc.layouts
  pub masters : head.masters (sheet.names_of root) root ≡ doc.masters
  pub variables : declared_names false root ≡ doc.variables
  pub sequences : declared_names true root ≡ doc.sequences
  pub text : IsAlike (draft_of root) doc
  pub met : AreMet IsMet (flat_map block_things doc.body) (met_of root)
