-- What the root of a document holds, and what stands round it.
use Rattle.std.specs.Prelude.{ℕ, Bool, List, [], ◌∷◌, ◌++◌, codes}
use Rattle.markup_nodes.specs.Node.{Node}
use Rattle.markup_nodes.specs.declared.words.Attr.{Attr}
use Rattle.markup_nodes.specs.declared.tree.Elem.{Elem}
use Rattle.doc_model.specs.declared.document.Document.{Document}
use Rattle.tree_text.specs.Writing.{declaration, tag_text, end_text}
use Rattle.written_model.specs.Elements.{attribute, element}
use Rattle.written_model.specs.Styles.{styles_part, automatic_part, masters_part}
use Rattle.written_model.specs.Written.{namespaces, mimetype, text_element}

-- the attributes of the root: the namespaces, the version and the kind of document
abbrev pub root_attributes : Bool → List Attr
root_attributes global = namespaces ++ attribute (codes "office:version") (codes "1.3") ∷ attribute (codes "office:mimetype") (mimetype global) ∷ []

-- the tag of the root
abbrev pub root_start : Bool → List ℕ
root_start global = tag_text (codes "office:document") (root_attributes global) ++ codes ">"

-- what stands before the parts: the declaration on a line, and the root's tag
abbrev pub document_start : Bool → List ℕ
document_start global = (declaration ++ codes "\n") ++ root_start global

-- what stands behind the body: the root's end and a line end
abbrev pub document_end : List ℕ
document_end = end_text (codes "office:document") ++ codes "\n"

-- the parts that hold styles and master pages
abbrev pub document_parts : Document → List (Node Elem)
document_parts doc = styles_part doc ++ automatic_part doc ++ masters_part doc

-- the body with the text in it
abbrev pub body_element : Document → Node Elem
body_element doc = element (codes "office:body") [] (text_element doc ∷ [])
