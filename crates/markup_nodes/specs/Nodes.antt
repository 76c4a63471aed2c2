-- Elements and characters in their order, as runs and as a list.
use Rattle.std.specs.Prelude.{ℕ, List, [], ◌∷◌, ◌++◌, map}
use Rattle.std.specs.List.{flat_map}
use Rattle.markup_nodes.specs.Node.{Node, Element, Char}
use Rattle.markup_nodes.specs.declared.nodes.Turn.{Turn}

-- characters as nodes
abbrev pub char_nodes : {X : Type 0} → List ℕ → List (Node X)
char_nodes = map Char

-- an element and the characters behind it as nodes
abbrev pub turn_nodes : {X : Type 0} → Turn X → List (Node X)
turn_nodes turn = Element turn.elem ∷ char_nodes turn.after

-- the nodes of a first run and of elements with the run behind each
abbrev pub nodes_of : {X : Type 0} → List ℕ → List (Turn X) → List (Node X)
nodes_of first turns = char_nodes first ++ flat_map turn_nodes turns

-- the characters before the first element
abbrev pub leading : {X : Type 0} → List (Node X) → List ℕ
leading [] = []
leading (Element x ∷ nodes) = []
leading (Char c ∷ nodes) = c ∷ leading nodes

-- the elements
abbrev pub elems : {X : Type 0} → List (Node X) → List X
elems [] = []
elems (Element x ∷ nodes) = x ∷ elems nodes
elems (Char c ∷ nodes) = elems nodes

-- each element with the characters behind it
abbrev pub turns_of : {X : Type 0} → List (Node X) → List (Turn X)
turns_of [] = []
turns_of (Element x ∷ nodes) = record { elem = x; after = leading nodes } ∷ turns_of nodes
turns_of (Char c ∷ nodes) = turns_of nodes
