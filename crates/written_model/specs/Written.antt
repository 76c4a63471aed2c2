-- The tree that a document is written as.
use Rattle.std.specs.Prelude.{ℕ, Bool, List, [], ◌∷◌, ◌++◌, map, codes, if◌then◌else◌}
use Rattle.markup_nodes.specs.declared.words.Attr.{Attr}
use Rattle.markup_nodes.specs.declared.tree.Elem.{Elem, roll-Elem}
use Rattle.markup_nodes.specs.Node.{Node}
use Rattle.doc_model.specs.declared.document.Document.{Document}
use Rattle.written_model.specs.Elements.{attribute, where_true, element, empty_element, part}
use Rattle.written_model.specs.Styles.{styles_part, automatic_part, masters_part}
use Rattle.written_model.specs.Blocks.{block_element}

-- the namespaces that the root declares
abbrev pub namespaces : List Attr
namespaces =
    attribute (codes "xmlns:office") (codes "urn:oasis:names:tc:opendocument:xmlns:office:1.0")
    ∷ attribute (codes "xmlns:style") (codes "urn:oasis:names:tc:opendocument:xmlns:style:1.0")
    ∷ attribute (codes "xmlns:text") (codes "urn:oasis:names:tc:opendocument:xmlns:text:1.0")
    ∷ attribute (codes "xmlns:table") (codes "urn:oasis:names:tc:opendocument:xmlns:table:1.0")
    ∷ attribute (codes "xmlns:fo") (codes "urn:oasis:names:tc:opendocument:xmlns:xsl-fo-compatible:1.0")
    ∷ attribute (codes "xmlns:xlink") (codes "http://www.w3.org/1999/xlink") ∷ []

-- the kind of document in the words of its media type
abbrev pub mimetype : Bool → List ℕ
mimetype global = if global then codes "application/vnd.oasis.opendocument.text-master" else codes "application/vnd.oasis.opendocument.text"

-- the declared variables
abbrev pub variable_declarations : List (List ℕ) → List (Node Elem)
variable_declarations names = part (codes "text:variable-decls") (map (λ name. empty_element (codes "text:variable-decl") (attribute (codes "office:value-type") (codes "string") ∷ attribute (codes "text:name") name ∷ [])) names)

-- the declared sequences
abbrev pub sequence_declarations : List (List ℕ) → List (Node Elem)
sequence_declarations names = part (codes "text:sequence-decls") (map (λ name. empty_element (codes "text:sequence-decl") (attribute (codes "text:display-outline-level") (codes "0") ∷ attribute (codes "text:name") name ∷ [])) names)

-- the text: declarations, then the blocks
abbrev pub text_element : Document → Node Elem
text_element doc = element (codes "office:text") (where_true (codes "text:global") (codes "true") doc.global) (variable_declarations doc.variables ++ sequence_declarations doc.sequences ++ map block_element doc.body)

-- the root of the tree that a document is written as
abbrev pub written : Document → Elem
written doc = roll-Elem (record {
  place = 0;
  name = codes "office:document";
  attrs = namespaces ++ attribute (codes "office:version") (codes "1.3") ∷ attribute (codes "office:mimetype") (mimetype doc.global) ∷ [];
  nodes = styles_part doc ++ automatic_part doc ++ masters_part doc ++ element (codes "office:body") [] (text_element doc ∷ []) ∷ [];
})
