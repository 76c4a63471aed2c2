-- What an element is without places.
use Rattle.std.proofs.Common.{◌≡◌, ℕ, List, [], ◌∷◌, map, refl, ap, ap₂, sym, subst, ◌∙◌}
use mathlib.Core.Former.{this}
use Rattle.markup_nodes.specs.formers.nodes.Nodes.{the_former}
use Rattle.markup_nodes.specs.Node.{Node, Element, Char}
use Rattle.markup_nodes.specs.Nodes.{elems}
use Rattle.load_model.specs.declared.names.Tag.{Tag}
use Rattle.load_model.specs.declared.element.Attribute.{Attribute}
use Rattle.load_model.specs.declared.element.Element.{Element as Read, out-Element, roll-Element}
use Rattle.load_model.specs.declared.element.Element.TheOpen.{Element-F}
use Rattle.load_model.specs.declared.element.Element.TheViews.{out-roll-Element}
use Rattle.load_model.specs.declared.element.Element.TheFolds.{fold-Element, fold_out-Element, fold-roll-Element, ind-Element}
use Rattle.load_model.specs.Left.{children, tag_of, attributes_of}
use Rattle.back_names.specs.Named.{placeless, placeless_elem, placeless_node}

-- an element of these parts
abbrev pub read_of : ℕ → Tag → List Attribute → List (Node Read) → Read
read_of place tag attributes nodes = roll-Element (record { place = place; tag = tag; attributes = attributes; nodes = nodes })

nodes_placeless : (nodes : List (Node Read)) → (the_former this).map Read Read placeless nodes ≡ map placeless_node nodes
nodes_placeless [] = refl
nodes_placeless (Element element ∷ nodes) = ap (λ (more : List (Node Read)). Element (placeless element) ∷ more) (nodes_placeless nodes)
nodes_placeless (Char c ∷ nodes) = ap (λ (more : List (Node Read)). Char c ∷ more) (nodes_placeless nodes)

pub out_bare : (element : Read) → out-Element (placeless element)
    ≡ (record { place = 0; tag = tag_of element; attributes = attributes_of element; nodes = map placeless_node (out-Element element).nodes })
out_bare element =
    ap out-Element (fold_out-Element Read placeless_elem element ∙ ap (read_of 0 (tag_of element) (attributes_of element)) (nodes_placeless (out-Element element).nodes))
    ∙ out-roll-Element (record { place = 0; tag = tag_of element; attributes = attributes_of element; nodes = map placeless_node (out-Element element).nodes })

pub tag_bare : (element : Read) → tag_of (placeless element) ≡ tag_of element
tag_bare element = ap (λ (parts : Element-F Read). parts.tag) (out_bare element)

pub place_bare : (element : Read) → (out-Element (placeless element)).place ≡ 0
place_bare element = ap (λ (parts : Element-F Read). parts.place) (out_bare element)

pub attributes_bare : (element : Read) → attributes_of (placeless element) ≡ attributes_of element
attributes_bare element = ap (λ (parts : Element-F Read). parts.attributes) (out_bare element)

elems_bare : (nodes : List (Node Read)) → elems (map placeless_node nodes) ≡ map placeless (elems nodes)
elems_bare [] = refl
elems_bare (Element element ∷ nodes) = ap (λ (more : List Read). placeless element ∷ more) (elems_bare nodes)
elems_bare (Char c ∷ nodes) = elems_bare nodes

pub children_bare : (element : Read) → children (placeless element) ≡ map placeless (children element)
children_bare element = ap (λ (parts : Element-F Read). elems parts.nodes) (out_bare element) ∙ elems_bare (out-Element element).nodes

-- what a fold makes of an element doesn't look at places, where one step of it doesn't
module _ {X : Type 0} (step : Element-F X → X) where
  abbrev LooksAtNoPlace : Type 0
  LooksAtNoPlace = (place : ℕ) (tag : Tag) (attributes : List Attribute) (nodes : List (Node X))
      → step (record { place = 0; tag = tag; attributes = attributes; nodes = nodes }) ≡ step (record { place = place; tag = tag; attributes = attributes; nodes = nodes })

  abbrev Same : Read → Type 0
  Same element = fold-Element X step (placeless element) ≡ fold-Element X step element

  abbrev SameElement : Type 0
  SameElement = (element : Read) × Same element

  abbrev plain : SameElement → Read
  plain one = one.0

  abbrev folded : List (Node Read) → List (Node X)
  folded nodes = (the_former this).map Read X (fold-Element X step) nodes

  nodes_same : (nodes : List (Node SameElement)) → folded (map placeless_node ((the_former this).map SameElement Read plain nodes)) ≡ folded ((the_former this).map SameElement Read plain nodes)
  nodes_same [] = refl
  nodes_same (Element element ∷ nodes) = ap₂ (λ (one : X) (more : List (Node X)). Element one ∷ more) element.1 (nodes_same nodes)
  nodes_same (Char c ∷ nodes) = ap (λ (more : List (Node X)). Char c ∷ more) (nodes_same nodes)

  rolled_same : LooksAtNoPlace → (place : ℕ) (tag : Tag) (attributes : List Attribute) (nodes : List (Node SameElement))
      → Same (read_of place tag attributes ((the_former this).map SameElement Read plain nodes))
  rolled_same none place tag attributes nodes =
      let inner = (the_former this).map SameElement Read plain nodes in
      ap (fold-Element X step) (fold-roll-Element Read placeless_elem (record { place = place; tag = tag; attributes = attributes; nodes = inner })
      ∙ ap (read_of 0 tag attributes) (nodes_placeless inner))
      ∙ fold-roll-Element X step (record { place = 0; tag = tag; attributes = attributes; nodes = map placeless_node inner })
      ∙ none place tag attributes (folded (map placeless_node inner))
      ∙ ap (λ (held : List (Node X)). step (record { place = place; tag = tag; attributes = attributes; nodes = held })) (nodes_same nodes)
      ∙ sym (fold-roll-Element X step (record { place = place; tag = tag; attributes = attributes; nodes = inner }))

  pub fold_bare : LooksAtNoPlace → (element : Read) → Same element
  fold_bare none = ind-Element Same (λ x y is. subst (λ (z : Element-F Read). Same (roll-Element z)) is (rolled_same none y.place y.tag y.attributes y.nodes))
