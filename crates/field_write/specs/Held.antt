-- What stands behind the attributes of an element that holds a text.
use Rattle.std.specs.Prelude.{ℕ, List, [], ◌∷◌, ◌++◌, codes}
use Rattle.markup_tree.specs.Escapes.{escaped_text}
use Rattle.tree_text.specs.Writing.{end_text}

abbrev pub held_text : List ℕ → List ℕ → List ℕ
held_text name [] = codes "/>"
held_text name (c ∷ cs) = codes ">" ++ (escaped_text (c ∷ cs) ++ end_text name)
