-- What elements are by their parts.
use Rattle.std.proofs.Common.{◌≡◌, ℕ, List, [], ◌∷◌, map, refl, ap, sym, ◌∙◌}
use mathlib.Core.Former.{this}
use Rattle.markup_nodes.specs.formers.nodes.Nodes.{the_former}
use Rattle.markup_nodes.specs.declared.words.Attr.{Attr}
use Rattle.markup_nodes.specs.declared.tree.Elem.{Elem, out-Elem, roll-Elem}
use Rattle.markup_nodes.specs.declared.tree.Elem.TheOpen.{Elem-F}
use Rattle.markup_nodes.specs.declared.tree.Elem.TheViews.{out-roll-Elem}
use Rattle.markup_nodes.specs.declared.tree.Elem.TheFolds.{fold_out-Elem, fold-roll-Elem}
use Rattle.markup_nodes.specs.Node.{Node, Element, Char}
use Rattle.load_model.specs.declared.element.Element.{Element as Read, roll-Element}
use Rattle.tree_text.specs.Writing.{unplaced, unplaced_elem}
use Rattle.back_names.specs.Named.{tag_named, named_attribute, named_elem, named, named_node, placeless, placeless_node}

abbrev pub elem_of : ℕ → List ℕ → List Attr → List (Node Elem) → Elem
elem_of place name attrs nodes = roll-Elem (record { place = place; name = name; attrs = attrs; nodes = nodes })

-- the same of each node
abbrev pub each_node : {A : Type 0} → (Elem → A) → List (Node Elem) → List (Node A)
each_node {A} f = (the_former this).map Elem A f

abbrev pub unplaced_node : Node Elem → Node Elem
unplaced_node (Element elem) = Element (unplaced elem)
unplaced_node (Char c) = Char c

nodes_named : (nodes : List (Node Elem)) → each_node named nodes ≡ map named_node nodes
nodes_named [] = refl
nodes_named (Element elem ∷ nodes) = ap (λ (more : List (Node Read)). Element (named elem) ∷ more) (nodes_named nodes)
nodes_named (Char c ∷ nodes) = ap (λ (more : List (Node Read)). Char c ∷ more) (nodes_named nodes)

nodes_unplaced : (nodes : List (Node Elem)) → each_node unplaced nodes ≡ map unplaced_node nodes
nodes_unplaced [] = refl
nodes_unplaced (Element elem ∷ nodes) = ap (λ (more : List (Node Elem)). Element (unplaced elem) ∷ more) (nodes_unplaced nodes)
nodes_unplaced (Char c ∷ nodes) = ap (λ (more : List (Node Elem)). Char c ∷ more) (nodes_unplaced nodes)

nodes_placeless : (nodes : List (Node Read)) → (the_former this).map Read Read placeless nodes ≡ map placeless_node nodes
nodes_placeless [] = refl
nodes_placeless (Element element ∷ nodes) = ap (λ (more : List (Node Read)). Element (placeless element) ∷ more) (nodes_placeless nodes)
nodes_placeless (Char c ∷ nodes) = ap (λ (more : List (Node Read)). Char c ∷ more) (nodes_placeless nodes)

-- an element by its parts, as it is read
pub named_out : (elem : Elem) → named elem
    ≡ roll-Element (record { place = (out-Elem elem).place; tag = tag_named (out-Elem elem).name; attributes = map named_attribute (out-Elem elem).attrs; nodes = map named_node (out-Elem elem).nodes })
named_out elem =
    fold_out-Elem Read named_elem elem
    ∙ ap (λ (nodes : List (Node Read)). roll-Element (record { place = (out-Elem elem).place; tag = tag_named (out-Elem elem).name; attributes = map named_attribute (out-Elem elem).attrs; nodes = nodes }))
    (nodes_named (out-Elem elem).nodes)

pub named_of : (place : ℕ) (name : List ℕ) (attrs : List Attr) (nodes : List (Node Elem)) → named (elem_of place name attrs nodes)
    ≡ roll-Element (record { place = place; tag = tag_named name; attributes = map named_attribute attrs; nodes = map named_node nodes })
named_of place name attrs nodes =
    fold-roll-Elem Read named_elem (record { place = place; name = name; attrs = attrs; nodes = nodes })
    ∙ ap (λ (held : List (Node Read)). roll-Element (record { place = place; tag = tag_named name; attributes = map named_attribute attrs; nodes = held })) (nodes_named nodes)

-- elements that are alike but for places have the same parts but for places
pub unplaced_out : (elem : Elem) → out-Elem (unplaced elem) ≡ (record { place = 0; name = (out-Elem elem).name; attrs = (out-Elem elem).attrs; nodes = map unplaced_node (out-Elem elem).nodes })
unplaced_out elem =
    ap out-Elem (fold_out-Elem Elem unplaced_elem elem
    ∙ ap (elem_of 0 (out-Elem elem).name (out-Elem elem).attrs) (nodes_unplaced (out-Elem elem).nodes))
    ∙ out-roll-Elem (record { place = 0; name = (out-Elem elem).name; attrs = (out-Elem elem).attrs; nodes = map unplaced_node (out-Elem elem).nodes })

pub unplaced_of : (place : ℕ) (name : List ℕ) (attrs : List Attr) (nodes : List (Node Elem)) → unplaced (elem_of place name attrs nodes) ≡ elem_of 0 name attrs (map unplaced_node nodes)
unplaced_of place name attrs nodes =
    fold-roll-Elem Elem unplaced_elem (record { place = place; name = name; attrs = attrs; nodes = nodes }) ∙ ap (elem_of 0 name attrs) (nodes_unplaced nodes)

pub record AreAlike (one other : Elem) : Type 0 where
  pub name : (out-Elem one).name ≡ (out-Elem other).name
  pub attrs : (out-Elem one).attrs ≡ (out-Elem other).attrs
  pub nodes : map unplaced_node (out-Elem one).nodes ≡ map unplaced_node (out-Elem other).nodes

pub alike : (one other : Elem) → unplaced one ≡ unplaced other → AreAlike one other
alike one other e =
    let same = sym (unplaced_out one) ∙ ap out-Elem e ∙ unplaced_out other in
    record {
      name = ap (λ (parts : Elem-F Elem). parts.name) same;
      attrs = ap (λ (parts : Elem-F Elem). parts.attrs) same;
      nodes = ap (λ (parts : Elem-F Elem). parts.nodes) same;
    }
