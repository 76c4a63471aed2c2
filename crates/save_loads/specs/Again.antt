-- What it means that bytes are loaded as a document again.
use Rattle.std.specs.Prelude.{ℕ, List}
use Rattle.doc_load.specs.Loads.{Loads}
use Rattle.doc_model.specs.Alike.{IsAlike}
use Rattle.doc_model.specs.declared.document.Document.{Document}

-- bytes are loaded as a document alike to this one, and nothing is left out
pub record IsLoadedAgain (bytes : List ℕ) (doc : Document) : Type 0 where
  pub again : Document
  pub loads : Loads bytes again (record { elements = 0; attributes = 0; sources = 0 })
  pub alike : IsAlike again doc
