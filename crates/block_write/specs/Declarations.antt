-- Declarations, one by one.
use Rattle.std.specs.Prelude.{ℕ, List, [], ◌∷◌, codes}
use Rattle.markup_nodes.specs.declared.tree.Elem.{Elem}
use Rattle.markup_nodes.specs.Node.{Node}
use Rattle.written_model.specs.Elements.{attribute, empty_element}

-- a declared variable
abbrev pub variable_element : List ℕ → Node Elem
variable_element name = empty_element (codes "text:variable-decl") (attribute (codes "office:value-type") (codes "string") ∷ attribute (codes "text:name") name ∷ [])

-- a declared sequence
abbrev pub sequence_element : List ℕ → Node Elem
sequence_element name = empty_element (codes "text:sequence-decl") (attribute (codes "text:display-outline-level") (codes "0") ∷ attribute (codes "text:name") name ∷ [])
