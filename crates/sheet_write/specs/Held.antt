-- What stands behind the attributes of an element.
use Rattle.std.specs.Prelude.{ℕ, List, [], ◌∷◌, ◌++◌, codes}
use Rattle.markup_nodes.specs.Node.{Node}
use Rattle.markup_nodes.specs.declared.tree.Elem.{Elem}
use Rattle.tree_text.specs.Writing.{end_text, content_text}

-- the end of the tag, and where the element holds something, that and the end of the element
abbrev pub held_text : List ℕ → List (Node Elem) → List ℕ
held_text name [] = codes "/>"
held_text name (node ∷ nodes) = codes ">" ++ (content_text (node ∷ nodes) ++ end_text name)
