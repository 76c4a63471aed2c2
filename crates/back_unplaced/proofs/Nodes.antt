-- Nodes whose elements all have the place 0.
use Rattle.std.proofs.Common.{◌≡◌, ℕ, List, [], ◌∷◌, ◌++◌, map, refl, ap, ap₂, ◌∙◌}
use Rattle.std.specs.List.{AllByRecursion as Each}
use Rattle.std.proofs.lemmas.List.{map-append}
use Rattle.markup_nodes.specs.declared.words.Attr.{Attr}
use Rattle.markup_nodes.specs.declared.tree.Elem.{Elem}
use Rattle.markup_nodes.specs.Node.{Node, Element, Char}
use Rattle.written_model.specs.Elements.{element, part, properties, characters}
use Rattle.back_names.proofs.Parts.{unplaced_node, unplaced_of, elem_of}

-- a node, and nodes, that have no places
abbrev pub IsStill : Node Elem → Type 0
IsStill node = unplaced_node node ≡ node

abbrev pub AreStill : List (Node Elem) → Type 0
AreStill nodes = map unplaced_node nodes ≡ nodes

pub element_still : (name : List ℕ) (attrs : List Attr) (nodes : List (Node Elem)) → AreStill nodes → IsStill (element name attrs nodes)
element_still name attrs nodes still = ap (λ (elem : Elem). Element elem) (unplaced_of 0 name attrs nodes ∙ ap (elem_of 0 name attrs) still)

pub empty_still : (name : List ℕ) (attrs : List Attr) → IsStill (element name attrs [])
empty_still name attrs = element_still name attrs [] refl

pub one_still : (node : Node Elem) → IsStill node → AreStill (node ∷ [])
one_still node still = ap (λ (one : Node Elem). one ∷ []) still

pub more_still : (node : Node Elem) (nodes : List (Node Elem)) → IsStill node → AreStill nodes → AreStill (node ∷ nodes)
more_still node nodes one more = ap₂ (λ (one : Node Elem) (more : List (Node Elem)). one ∷ more) one more

pub both_still : (nodes others : List (Node Elem)) → AreStill nodes → AreStill others → AreStill (nodes ++ others)
both_still nodes others one other = map-append unplaced_node nodes others ∙ ap₂ (λ (one other : List (Node Elem)). one ++ other) one other

pub all_still : {X : Type 0} (made : X → Node Elem) → ((x : X) → IsStill (made x)) → (xs : List X) → AreStill (map made xs)
all_still made each [] = refl
all_still made each (x ∷ xs) = more_still (made x) (map made xs) (each x) (all_still made each xs)

pub each_still : {X : Type 0} (made : X → Node Elem) (xs : List X) → Each (λ x. IsStill (made x)) xs → AreStill (map made xs)
each_still made [] each = refl
each_still made (x ∷ xs) each = more_still (made x) (map made xs) each.0 (each_still made xs each.1)

pub part_still : (name : List ℕ) (nodes : List (Node Elem)) → AreStill nodes → AreStill (part name nodes)
part_still name [] still = refl
part_still name (node ∷ nodes) still = one_still (element name [] (node ∷ nodes)) (element_still name [] (node ∷ nodes) still)

pub properties_still : (name : List ℕ) (attrs : List Attr) → AreStill (properties name attrs)
properties_still name [] = refl
properties_still name (attr ∷ attrs) = one_still (element name (attr ∷ attrs) []) (empty_still name (attr ∷ attrs))

pub characters_still : (text : List ℕ) → AreStill (characters text)
characters_still text = all_still Char (λ c. refl) text
