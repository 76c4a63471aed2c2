-- What a file is saved as.
use Rattle.std.specs.Prelude.{◌≡◌, ℕ, List, Result, Ok, Err, encode_utf8_all}
use Rattle.doc_model.specs.declared.document.Document.{Document}
use Rattle.doc_model.specs.declared.report.Report.{Report}
use Rattle.doc_load.specs.declared.offence.LoadFault.{LoadFault}
use Rattle.doc_load.specs.declared.offence.LoadFault.TheVariants as fault
use Rattle.doc_load.specs.declared.offence.Offence.{Offence}
use Rattle.doc_load.specs.Loads.{Loads}
use Rattle.tree_text.specs.Writing.{document_text}
use Rattle.written_model.specs.Written.{written}
use Rattle.file_save.specs.declared.save.Saved.{Saved}

-- the canonical bytes of a document: the text of the tree that it is written as, in UTF-8
abbrev pub canonical_bytes : Document → List ℕ
canonical_bytes doc = encode_utf8_all (document_text (written doc))

-- bytes are loaded as a document of these canonical bytes, with this report
pub record Saves (bytes text : List ℕ) (report : Report) : Type 0 where
  pub doc : Document
  pub loads : Loads bytes doc report
  pub text_is : text ≡ canonical_bytes doc

-- an answer is this text with this report, or want of memory
abbrev pub IsSavedUnlessMemory : List ℕ → Report → Result Saved LoadFault → Type 0
IsSavedUnlessMemory text report (Ok one) = (one.text ≡ text) × (one.report ≡ report)
IsSavedUnlessMemory text report (Err why) = why ≡ fault.NoMemory

-- an answer is this offence, or want of memory
abbrev pub IsOffenceUnlessMemory : Offence → Result Saved LoadFault → Type 0
IsOffenceUnlessMemory offence (Ok one) = ⊥
IsOffenceUnlessMemory offence (Err (fault.Offence told)) = told ≡ offence
IsOffenceUnlessMemory offence (Err fault.NoMemory) = Unit {0}
