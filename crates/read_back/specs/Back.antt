-- What a saved document is loaded as.
use Rattle.std.specs.Prelude.{◌≡◌, ℕ, List, None}
use Rattle.std.specs.List.{AllByRecursion as Each}
use Rattle.markup_nodes.specs.declared.tree.Tree.{Tree}
use Rattle.markup_tree.specs.Documents.{Spells}
use Rattle.doc_model.specs.Alike.{IsAlike}
use Rattle.doc_model.specs.declared.document.Document.{Document}
use Rattle.doc_model.specs.Parts.{all_fields, head_paragraphs}
use Rattle.load_model.specs.Loaded.{loaded, report_of}
use Rattle.load_model.specs.Names.{resolved}
use Rattle.load_model.specs.Offences.{first_offence}
use Rattle.back_heads.specs.Heads as head
use Rattle.back_parts.specs.Parts.{AreStylesInRange}
use Rattle.back_valid.specs.Found.{IsAdjusted}

-- the numbers of styles, lists, layouts and page number fields are in the ranges of their types, as those of every document of the program are
pub record HasRanges (doc : Document) : Type 0 where
  pub sheets : AreStylesInRange doc
  pub heads : Each (λ par. Each head.IsAdjusted par.items) (head_paragraphs doc)
  pub fields : Each IsAdjusted (all_fields doc)

-- bytes spell a tree without an offence that is loaded as a document alike to this one, and nothing is left out
pub record IsLoadedBack (bytes : List ℕ) (doc : Document) : Type 0 where
  pub tree : Tree
  pub spelled : Spells bytes tree
  pub sound : first_offence tree.root ≡ None
  pub alike : IsAlike (loaded (resolved tree.root)) doc
  pub report : report_of (resolved tree.root) ≡ record { elements = 0; attributes = 0; sources = 0 }
