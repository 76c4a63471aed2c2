-- The characters of the elements of a file.
use Rattle.std.specs.Prelude.{ℕ, List, [], ◌∷◌, ◌++◌}
use Rattle.std.specs.List.{flat_map, AllByRecursion as Each}
use Rattle.markup_nodes.specs.Node.{Node, Element as Inner, Char}
use Rattle.doc_model.specs.Chars.{IsLegal}
use Rattle.load_model.specs.declared.element.Element.{Element}
use Rattle.load_model.specs.declared.element.Element.TheOpen.{Element-F}
use Rattle.load_model.specs.declared.element.Element.TheFolds.{fold-Element}

-- a character of content, or those of an element within
abbrev pub node_characters : Node (List ℕ) → List ℕ
node_characters (Inner characters) = characters
node_characters (Char c) = c ∷ []

-- the characters of an element's attributes, and then those of what it holds
abbrev pub own_and_inner : Element-F (List ℕ) → List ℕ
own_and_inner element = flat_map (λ attribute. attribute.text) element.attributes ++ flat_map node_characters element.nodes

abbrev pub characters_in : Element → List ℕ
characters_in = fold-Element (List ℕ) own_and_inner

-- each character of an attribute's value and of content is legal, in the element and in all within it
abbrev pub IsLegalTree : Element → Type 0
IsLegalTree element = Each IsLegal (characters_in element)

-- the same of a node
abbrev pub IsLegalNode : Node Element → Type 0
IsLegalNode (Inner element) = IsLegalTree element
IsLegalNode (Char c) = IsLegal c
