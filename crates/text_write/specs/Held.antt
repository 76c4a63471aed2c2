-- What the text of a document holds.
use Rattle.std.specs.Prelude.{ℕ, Bool, ◌||◌, List, ◌++◌, codes, map}
use Rattle.markup_nodes.specs.declared.tree.Elem.{Elem}
use Rattle.markup_nodes.specs.Node.{Node}
use Rattle.doc_model.specs.declared.document.Document.{Document}
use Rattle.spelling_model.specs.Spelling.{is_there}
use Rattle.tree_text.specs.Writing.{tag_text}
use Rattle.written_model.specs.Elements.{where_true}
use Rattle.written_model.specs.Blocks.{block_element}
use Rattle.written_model.specs.Written.{variable_declarations, sequence_declarations}
use Rattle.paragraph_write.specs.Around.{tag_close}

-- declarations, then the blocks
abbrev pub held : Document → List (Node Elem)
held doc = variable_declarations doc.variables ++ sequence_declarations doc.sequences ++ map block_element doc.body

-- whether there are any
abbrev pub holds_something : Document → Bool
holds_something doc = (is_there doc.variables || is_there doc.sequences) || is_there doc.body

-- the tag of the text
abbrev pub text_start : Bool → Bool → List ℕ
text_start global holds = tag_text (codes "office:text") (where_true (codes "text:global") (codes "true") global) ++ tag_close holds
