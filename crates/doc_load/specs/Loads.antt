-- What the bytes of a file are loaded as, and their first offence.
use Rattle.std.specs.Prelude.{◌≡◌, ℕ, ◌⊎◌, List, Some, None, Result, Ok, Err}
use Rattle.doc_model.specs.declared.document.Document.{Document}
use Rattle.doc_model.specs.declared.report.Report.{Report}
use Rattle.load_model.specs.declared.offence.TreeOffence.{TreeOffence}
use Rattle.load_model.specs.Loaded.{loaded, report_of}
use Rattle.load_model.specs.Names.{resolved}
use Rattle.load_model.specs.Offences.{first_offence}
use Rattle.markup_nodes.specs.declared.tree.Tree.{Tree}
use Rattle.markup_tree.specs.declared.reader.Offence.{Offence as MarkupOffence}
use Rattle.markup_tree.specs.Documents.{Spells, HasOffence as MarkupHas}
use Rattle.doc_load.specs.Offences.{of_markup, of_tree}
use Rattle.doc_load.specs.declared.offence.LoadFault.{LoadFault}
use Rattle.doc_load.specs.declared.offence.LoadFault.TheVariants as fault
use Rattle.doc_load.specs.declared.offence.Offence.{Offence}

-- bytes are loaded: they spell a tree that has no offence, and this is its document and its report
pub record Loads (bytes : List ℕ) (doc : Document) (report : Report) : Type 0 where
  pub tree : Tree
  pub spelled : Spells bytes tree
  pub sound : first_offence tree.root ≡ None
  pub doc_is : doc ≡ loaded (resolved tree.root)
  pub report_is : report ≡ report_of (resolved tree.root)

-- the first offence of bytes is one of their markup
pub record IsOfMarkup (bytes : List ℕ) (offence : Offence) : Type 0 where
  pub markup : MarkupOffence
  pub has : MarkupHas bytes markup
  pub is : offence ≡ of_markup markup

-- they spell a tree, and it is the first one of the tree
pub record IsOfTree (bytes : List ℕ) (offence : Offence) : Type 0 where
  pub tree : Tree
  pub spelled : Spells bytes tree
  pub first : TreeOffence
  pub has : first_offence tree.root ≡ Some first
  pub is : offence ≡ of_tree first

-- the first offence of bytes
abbrev pub HasOffence : List ℕ → Offence → Type 0
HasOffence bytes offence = IsOfMarkup bytes offence ⊎ IsOfTree bytes offence

-- a fault is the first offence of bytes, or want of memory
abbrev pub IsFaultIn : List ℕ → LoadFault → Type 0
IsFaultIn bytes (fault.Offence offence) = HasOffence bytes offence
IsFaultIn bytes fault.NoMemory = Unit {0}

-- an answer is this document with this report, or want of memory
abbrev pub IsLoadedUnlessMemory : Document → Report → Result (Document × Report) LoadFault → Type 0
IsLoadedUnlessMemory doc report (Ok one) = (one.0 ≡ doc) × (one.1 ≡ report)
IsLoadedUnlessMemory doc report (Err why) = why ≡ fault.NoMemory

-- an answer is this offence, or want of memory
abbrev pub IsOffenceUnlessMemory : Offence → Result (Document × Report) LoadFault → Type 0
IsOffenceUnlessMemory offence (Ok one) = ⊥
IsOffenceUnlessMemory offence (Err (fault.Offence told)) = told ≡ offence
IsOffenceUnlessMemory offence (Err fault.NoMemory) = Unit {0}
