-- Elements and attributes as they are written. Where an element stands in a file is of no account here, so each has the place 0.
use Rattle.std.specs.Prelude.{ℕ, Bool, true, false, List, [], ◌∷◌, map, Option, Some, None}
use Rattle.markup_nodes.specs.declared.words.Attr.{Attr}
use Rattle.markup_nodes.specs.declared.tree.Elem.{Elem, roll-Elem}
use Rattle.markup_nodes.specs.Node.{Node, Element, Char}

-- an attribute with its value
abbrev pub attribute : List ℕ → List ℕ → Attr
attribute name value = record { name = name; value = value }

-- an attribute that is written where its value isn't empty
abbrev pub unless_empty : List ℕ → List ℕ → List Attr
unless_empty name [] = []
unless_empty name (c ∷ cs) = attribute name (c ∷ cs) ∷ []

-- an attribute that is written where its value is stated, as this text
abbrev pub where_stated : {X : Type 0} → List ℕ → (X → List ℕ) → Option X → List Attr
where_stated name text None = []
where_stated name text (Some value) = attribute name (text value) ∷ []

-- an attribute that is written only where this holds
abbrev pub where_true : List ℕ → List ℕ → Bool → List Attr
where_true name value false = []
where_true name value true = attribute name value ∷ []

-- an element with its attributes and what it holds
abbrev pub element : List ℕ → List Attr → List (Node Elem) → Node Elem
element name attrs nodes = Element (roll-Elem (record { place = 0; name = name; attrs = attrs; nodes = nodes }))

-- an element that holds nothing
abbrev pub empty_element : List ℕ → List Attr → Node Elem
empty_element name attrs = element name attrs []

-- a part that is written where it holds something
abbrev pub part : List ℕ → List (Node Elem) → List (Node Elem)
part name [] = []
part name (node ∷ nodes) = element name [] (node ∷ nodes) ∷ []

-- an element without content that is written where an attribute is stated
abbrev pub properties : List ℕ → List Attr → List (Node Elem)
properties name [] = []
properties name (attr ∷ attrs) = empty_element name (attr ∷ attrs) ∷ []

-- characters as they stand in an element
abbrev pub characters : List ℕ → List (Node Elem)
characters text = map Char text
