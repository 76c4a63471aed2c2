-- The places of the elements of a file, which come in its order.
use Rattle.std.specs.Prelude.{ℕ, ◌<◌, List, ◌∷◌, AllPairs}
use Rattle.std.specs.List.{flat_map}
use Rattle.markup_nodes.specs.Nodes.{elems}
use Rattle.markup_nodes.specs.declared.tree.Elem.{Elem}
use Rattle.markup_nodes.specs.declared.tree.Elem.TheOpen.{Elem-F}
use Rattle.markup_nodes.specs.declared.tree.Elem.TheFolds.{fold-Elem}
use Rattle.load_model.specs.declared.element.Element.{Element}
use Rattle.load_model.specs.declared.element.Element.TheOpen.{Element-F}
use Rattle.load_model.specs.declared.element.Element.TheFolds.{fold-Element}

-- the place of an element, and then those of the elements in it
abbrev pub own_and_inner : Element-F (List ℕ) → List ℕ
own_and_inner element = element.place ∷ flat_map (λ inner. inner) (elems element.nodes)

abbrev pub places_in : Element → List ℕ
places_in = fold-Element (List ℕ) own_and_inner

-- each element stands behind those before it
abbrev pub IsInOrder : Element → Type 0
IsInOrder element = AllPairs (λ place other. place < other) (places_in element)

-- the same of markup: the place of an element's tag, and then those of the elements in it
abbrev pub tag_and_inner : Elem-F (List ℕ) → List ℕ
tag_and_inner elem = elem.place ∷ flat_map (λ inner. inner) (elems elem.nodes)

abbrev pub tag_places : Elem → List ℕ
tag_places = fold-Elem (List ℕ) tag_and_inner

-- each tag stands behind those before it
abbrev pub AreTagsInOrder : Elem → Type 0
AreTagsInOrder elem = AllPairs (λ place other. place < other) (tag_places elem)
