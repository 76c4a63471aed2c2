-- What the text of a written document is read as.
use Rattle.std.specs.Prelude.{[], ◌++◌, false, true}
use Rattle.doc_model.specs.Alike.{unnumbered}
use Rattle.doc_model.specs.declared.document.Document.{Document}
use Rattle.load_model.specs.Blocks.{ReadBlocks}
use Rattle.load_model.specs.Left.{nothing}
use Rattle.back_blocks.specs.Blocks.{declared_names}

-- the document's blocks without numbers, and the names that it declares: first the variables, then the sequences
abbrev pub read_as : Document → ReadBlocks
read_as doc = record { blocks = (unnumbered doc).body; sources = []; declarations = declared_names false doc.variables ++ declared_names true doc.sequences; left = nothing }
