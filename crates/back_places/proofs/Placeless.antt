-- Names without places.
use Rattle.std.proofs.Common.{◌≡◌, ℕ, List, [], ◌∷◌, map, refl, ap, ap₂, sym, subst, ◌∙◌}
use mathlib.Core.Former.{this}
use Rattle.markup_nodes.specs.formers.nodes.Nodes.{the_former}
use Rattle.markup_nodes.specs.declared.words.Attr.{Attr}
use Rattle.markup_nodes.specs.declared.tree.Elem.{Elem, roll-Elem}
use Rattle.markup_nodes.specs.declared.tree.Elem.TheOpen.{Elem-F}
use Rattle.markup_nodes.specs.declared.tree.Elem.TheFolds.{map-Elem, ind-Elem}
use Rattle.markup_nodes.specs.Node.{Node, Element, Char}
use Rattle.load_model.specs.declared.element.Element.{Element as Read, roll-Element}
use Rattle.load_model.specs.declared.element.Element.TheFolds.{fold-roll-Element}
use Rattle.tree_text.specs.Writing.{unplaced}
use Rattle.back_names.specs.Named.{tag_named, named_attribute, named, named_node, placeless, placeless_elem}
use Rattle.back_names.proofs.Parts.{elem_of, named_of, unplaced_node, unplaced_of}

abbrev Same : Elem → Type 0
Same elem = placeless (named elem) ≡ named (unplaced elem)

abbrev SameElem : Type 0
SameElem = (elem : Elem) × Same elem

abbrev bare : SameElem → Elem
bare one = one.0

abbrev bared : List (Node SameElem) → List (Node Elem)
bared = (the_former this).map SameElem Elem bare

nodes_same : (nodes : List (Node SameElem)) → (the_former this).map Read Read placeless (map named_node (bared nodes)) ≡ map named_node (map unplaced_node (bared nodes))
nodes_same [] = refl
nodes_same (Element elem ∷ nodes) = ap₂ (λ (one : Read) (more : List (Node Read)). Element one ∷ more) elem.1 (nodes_same nodes)
nodes_same (Char c ∷ nodes) = ap (λ (more : List (Node Read)). Char c ∷ more) (nodes_same nodes)

rolled_same : (place : ℕ) (name : List ℕ) (attrs : List Attr) (nodes : List (Node SameElem)) → Same (elem_of place name attrs (bared nodes))
rolled_same place name attrs nodes =
    let inner = bared nodes in
    ap placeless (named_of place name attrs inner)
    ∙ fold-roll-Element Read placeless_elem (record { place = place; tag = tag_named name; attributes = map named_attribute attrs; nodes = map named_node inner })
    ∙ ap (λ (held : List (Node Read)). roll-Element (record { place = 0; tag = tag_named name; attributes = map named_attribute attrs; nodes = held })) (nodes_same nodes)
    ∙ sym (named_of 0 name attrs (map unplaced_node inner)) ∙ ap named (sym (unplaced_of place name attrs inner))

same_step : (x : Elem-F Elem) (y : Elem-F SameElem) → map-Elem SameElem Elem bare y ≡ x → Same (roll-Elem x)
same_step x y is = subst (λ (z : Elem-F Elem). Same (roll-Elem z)) is (rolled_same y.place y.name y.attrs y.nodes)

pub placeless_named : (elem : Elem) → placeless (named elem) ≡ named (unplaced elem)
placeless_named = ind-Elem Same same_step

pub alike_named : (one other : Elem) → unplaced one ≡ unplaced other → placeless (named one) ≡ placeless (named other)
alike_named one other e = placeless_named one ∙ ap named e ∙ sym (placeless_named other)
