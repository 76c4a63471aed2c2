-- The elements of a tree that is written so, whatever their places, and what they give.
use Rattle.std.proofs.Common.{◌≡◌, ℕ, List, [], ◌∷◌, ◌++◌, map, refl, sym, ap, ap₂, ◌∙◌, append_assoc, append-nil}
use mathlib.Core.Former.{this}
use Rattle.markup_nodes.specs.formers.nodes.Nodes.{the_former}
use Rattle.markup_nodes.specs.declared.words.Attr.{Attr}
use Rattle.markup_nodes.specs.declared.tree.Elem.{Elem}
use Rattle.markup_nodes.specs.Node.{Node, Element, Char}
use Rattle.markup_nodes.specs.Nodes.{elems}
use Rattle.load_model.specs.declared.names.Tag.{Tag}
use Rattle.load_model.specs.declared.element.Attribute.{Attribute}
use Rattle.load_model.specs.declared.element.Element.{Element as Read, out-Element}
use Rattle.load_model.specs.declared.element.Element.TheOpen.{Element-F}
use Rattle.load_model.specs.declared.element.Element.TheViews.{out-roll-Element}
use Rattle.load_model.specs.declared.element.Element.TheFolds.{fold_out-Element}
use Rattle.load_model.specs.Met.{Gives, Met, Where, each, gives_of, in_blocks, in_content, in_list}
use Rattle.written_model.specs.Elements.{element}
use Rattle.back_names.specs.Named.{named, named_attribute, named_node, placeless, placeless_elem, tag_named}
use Rattle.back_names.proofs.Parts.{elem_of, named_of}
use Rattle.met_read.specs.Walk.{held}
use Rattle.met_read.proofs.WalkLemmas.{gives_out}

-- a node is written as the other, but for places
abbrev pub IsNodeOf : Node Read → Node Elem → Type 0
IsNodeOf (Element t) (Element w) = placeless t ≡ named w
IsNodeOf (Char c) (Char d) = Unit {0}
IsNodeOf _ _ = ⊥

abbrev pub AreNodesOf : List (Node Read) → List (Node Elem) → Type 0
AreNodesOf [] [] = Unit {0}
AreNodesOf (t ∷ ts) (w ∷ ws) = IsNodeOf t w × AreNodesOf ts ws
AreNodesOf _ _ = ⊥

abbrev bare_nodes : List (Node Read) → List (Node Read)
bare_nodes = (the_former this).map Read Read placeless

nodes_are : (ts : List (Node Read)) (ws : List (Node Elem)) → bare_nodes ts ≡ map named_node ws → AreNodesOf ts ws
nodes_are [] [] e = tt
nodes_are [] (Element w ∷ ws) e = cc
nodes_are [] (Char d ∷ ws) e = cc
nodes_are (Element t ∷ ts) [] e = cc
nodes_are (Char c ∷ ts) [] e = cc
nodes_are (Element t ∷ ts) (Element w ∷ ws) e = (cc, nodes_are ts ws cc)
nodes_are (Element t ∷ ts) (Char d ∷ ws) e = cc
nodes_are (Char c ∷ ts) (Element w ∷ ws) e = cc
nodes_are (Char c ∷ ts) (Char d ∷ ws) e = (tt, nodes_are ts ws cc)

-- an element of this name and these parts, but for its place
pub record IsOf (t : Read) (tag : Tag) (attributes : List Attribute) (nodes : List (Node Elem)) : Type 0 where
  pub tag_is : (out-Element t).tag ≡ tag
  pub attributes_are : (out-Element t).attributes ≡ attributes
  pub nodes_of : AreNodesOf (out-Element t).nodes nodes

abbrev Layer : Type 0
Layer = Element-F Read

abbrev layer : ℕ → Tag → List Attribute → List (Node Read) → Layer
layer place tag attributes nodes = record { place = place; tag = tag; attributes = attributes; nodes = nodes }

layer_is : (t : Read) (place : ℕ) (name : List ℕ) (attrs : List Attr) (nodes : List (Node Elem)) → placeless t ≡ named (elem_of place name attrs nodes)
    → layer 0 (out-Element t).tag (out-Element t).attributes (bare_nodes (out-Element t).nodes) ≡ layer place (tag_named name) (map named_attribute attrs) (map named_node nodes)
layer_is t place name attrs nodes e =
    sym (ap out-Element (fold_out-Element Read placeless_elem t) ∙ out-roll-Element (layer 0 (out-Element t).tag (out-Element t).attributes (bare_nodes (out-Element t).nodes)))
    ∙ ap out-Element (e ∙ named_of place name attrs nodes) ∙ out-roll-Element (layer place (tag_named name) (map named_attribute attrs) (map named_node nodes))

pub is_of : (t : Read) (place : ℕ) (name : List ℕ) (attrs : List Attr) (nodes : List (Node Elem)) (tag : Tag) (attributes : List Attribute) → placeless t ≡ named (elem_of place name attrs nodes)
    → tag_named name ≡ tag → map named_attribute attrs ≡ attributes → IsOf t tag attributes nodes
is_of t place name attrs nodes tag attributes e is are =
    let same = layer_is t place name attrs nodes e in
    record {
      tag_is = ap (λ (x : Layer). x.tag) same ∙ is;
      attributes_are = ap (λ (x : Layer). x.attributes) same ∙ are;
      nodes_of = nodes_are (out-Element t).nodes nodes (ap (λ (x : Layer). x.nodes) same);
    }

-- what it gives by where it stands
module _ (t : Read) (tag : Tag) (attributes : List Attribute) (nodes : List (Node Elem)) (is : IsOf t tag attributes nodes) where
  pub content_at : (here : Where) → (gives_of t).content here ≡ in_content tag (out-Element t).place attributes (held t) here
  content_at here =
      ap (λ (one : Gives). one.content here) (gives_out t)
      ∙ ap₂ (λ (which : Tag) (all : List Attribute). in_content which (out-Element t).place all (held t) here) is.tag_is is.attributes_are

  pub blocks_at : (here : Where) → (gives_of t).blocks here ≡ in_blocks tag (out-Element t).place attributes (held t) here
  blocks_at here =
      ap (λ (one : Gives). one.blocks here) (gives_out t)
      ∙ ap₂ (λ (which : Tag) (all : List Attribute). in_blocks which (out-Element t).place all (held t) here) is.tag_is is.attributes_are

  pub entry_at : (here : Where) → (gives_of t).entry here ≡ in_list tag (held t) here
  entry_at here = ap (λ (one : Gives). one.entry here) (gives_out t) ∙ ap (λ (which : Tag). in_list which (held t) here) is.tag_is

-- what nodes give one after another
abbrev pub content_met : Where → List (Node Read) → List Met
content_met here nodes = each (λ one. one.content) here (map gives_of (elems nodes))

abbrev pub blocks_met : Where → List (Node Read) → List Met
blocks_met here nodes = each (λ one. one.blocks) here (map gives_of (elems nodes))

abbrev pub entries_met : Where → List (Node Read) → List Met
entries_met here nodes = each (λ one. one.entry) here (map gives_of (elems nodes))

pub nodes_met : (role : Gives → Where → List Met) (here : Where) (ts us : List (Node Read))
    → each role here (map gives_of (elems (ts ++ us))) ≡ each role here (map gives_of (elems ts)) ++ each role here (map gives_of (elems us))
nodes_met role here [] us = refl
nodes_met role here (Char c ∷ ts) us = nodes_met role here ts us
nodes_met role here (Element t ∷ ts) us =
    ap (λ (more : List Met). role (gives_of t) here ++ more) (nodes_met role here ts us)
    ∙ sym (append_assoc (role (gives_of t) here) (each role here (map gives_of (elems ts))) (each role here (map gives_of (elems us))))

-- a node that is such an element, and what it gives
pub record IsElement (t : Node Read) (tag : Tag) (attributes : List Attribute) (nodes : List (Node Elem)) : Type 0 where
  pub found : Read
  pub found_is : t ≡ Element found
  pub is : IsOf found tag attributes nodes

pub element_of : (t : Node Read) (name : List ℕ) (attrs : List Attr) (nodes : List (Node Elem)) (tag : Tag) (attributes : List Attribute) → IsNodeOf t (element name attrs nodes)
    → tag_named name ≡ tag → map named_attribute attrs ≡ attributes → IsElement t tag attributes nodes
element_of (Char c) name attrs nodes tag attributes of is are = absurd of
element_of (Element t) name attrs nodes tag attributes of is are = record { found = t; found_is = refl; is = is_of t 0 name attrs nodes tag attributes of is are }

module _ (t : Node Read) (tag : Tag) (attributes : List Attribute) (nodes : List (Node Elem)) (one : IsElement t tag attributes nodes) where
  pub content_one : (here : Where) → content_met here (t ∷ []) ≡ in_content tag (out-Element one.found).place attributes (held one.found) here
  content_one here = ap (λ (n : Node Read). content_met here (n ∷ [])) one.found_is ∙ append-nil ((gives_of one.found).content here) ∙ content_at one.found tag attributes nodes one.is here

  pub blocks_one : (here : Where) → blocks_met here (t ∷ []) ≡ in_blocks tag (out-Element one.found).place attributes (held one.found) here
  blocks_one here = ap (λ (n : Node Read). blocks_met here (n ∷ [])) one.found_is ∙ append-nil ((gives_of one.found).blocks here) ∙ blocks_at one.found tag attributes nodes one.is here

  pub entries_one : (here : Where) → entries_met here (t ∷ []) ≡ in_list tag (held one.found) here
  entries_one here = ap (λ (n : Node Read). entries_met here (n ∷ [])) one.found_is ∙ append-nil ((gives_of one.found).entry here) ∙ entry_at one.found tag attributes nodes one.is here

-- one node that is written as the only one
pub record IsAlone (ts : List (Node Read)) (w : Node Elem) : Type 0 where
  pub only : Node Read
  pub only_is : ts ≡ only ∷ []
  pub only_of : IsNodeOf only w

pub alone : (ts : List (Node Read)) (w : Node Elem) → AreNodesOf ts (w ∷ []) → IsAlone ts w
alone [] w are = absurd are
alone (t ∷ []) w are = record { only = t; only_is = refl; only_of = are.0 }
alone (t ∷ u ∷ ts) w are = absurd are.1

-- nodes that are written as two lists
pub record AreBoth (ts : List (Node Read)) (ws vs : List (Node Elem)) : Type 0 where
  pub front : List (Node Read)
  pub behind : List (Node Read)
  pub both : ts ≡ front ++ behind
  pub front_of : AreNodesOf front ws
  pub behind_of : AreNodesOf behind vs

pub parted : (ts : List (Node Read)) (ws vs : List (Node Elem)) → AreNodesOf ts (ws ++ vs) → AreBoth ts ws vs
parted ts [] vs are = record { front = []; behind = ts; both = refl; front_of = tt; behind_of = are }
parted [] (w ∷ ws) vs are = absurd are
parted (t ∷ ts) (w ∷ ws) vs are =
    let rest = parted ts ws vs are.1 in
    record { front = t ∷ rest.front; behind = rest.behind; both = ap (λ (more : List (Node Read)). t ∷ more) rest.both; front_of = (are.0, rest.front_of); behind_of = rest.behind_of }

pub both_of : (ts us : List (Node Read)) (ws vs : List (Node Elem)) → AreNodesOf ts ws → AreNodesOf us vs → AreNodesOf (ts ++ us) (ws ++ vs)
both_of [] us [] vs one other = other
both_of [] us (w ∷ ws) vs one other = absurd one
both_of (t ∷ ts) us [] vs one other = absurd one
both_of (t ∷ ts) us (w ∷ ws) vs one other = (one.0, both_of ts us ws vs one.1 other)
