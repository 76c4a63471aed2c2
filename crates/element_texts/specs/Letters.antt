-- The characters that stand directly in an element.
use Rattle.std.specs.Prelude.{ℕ, List, [], ◌∷◌}
use Rattle.markup_nodes.specs.Node.{Node, Element as Inner, Char as Letter}

-- the characters among nodes, without those within elements
abbrev pub letters : {X : Type 0} → List (Node X) → List ℕ
letters [] = []
letters (Inner x ∷ nodes) = letters nodes
letters (Letter c ∷ nodes) = c ∷ letters nodes
