-- The characters of a tree, level by level.
use Rattle.std.proofs.Common.{◌≡◌, ℕ, List, [], ◌∷◌, ◌++◌, map, refl, sym, ap, ap₂, ◌∙◌, subst, append-nil, append_assoc}
use Rattle.std.specs.List.{flat_map, AllByRecursion as Each}
use mathlib.Core.Former.{this}
use Rattle.markup_nodes.specs.formers.nodes.Nodes.{the_former}
use Rattle.markup_nodes.specs.declared.words.Attr.{Attr}
use Rattle.markup_nodes.specs.declared.tree.Elem.{Elem, out-Elem}
use Rattle.markup_nodes.specs.Node.{Node, Element as Inner, Char}
use Rattle.markup_nodes.specs.Nodes.{elems}
use Rattle.markup_tree.specs.Documents.{Event, Opens, Closes, Stands, events_of}
use Rattle.markup_tree.specs.Stacks.{held_events, begun}
use Rattle.markup_tree.proofs.EventLemmas.{events-begun}
use Rattle.doc_model.specs.Chars.{IsLegal}
use Rattle.load_model.specs.declared.element.Attribute.{Attribute}
use Rattle.load_model.specs.declared.element.Element.{Element, out-Element, roll-Element}
use Rattle.load_model.specs.declared.element.Element.TheOpen.{Element-F}
use Rattle.load_model.specs.declared.element.Element.TheFolds.{fold-roll-Element, fold_out-Element}
use Rattle.load_model.specs.Names.{Binding, bindings_within, tag_of, element_name, resolved_attribute, resolved_in}
use Rattle.expanded_names.proofs.TreeLemmas.{read_node, resolved_out}
use Rattle.tree_places.proofs.Trees.{every_elem}
use Rattle.legal_trees.specs.Legal.{node_characters, own_and_inner, characters_in, IsLegalTree, IsLegalNode}
use Rattle.legal_trees.proofs.Lists.{each_both, each_part}

-- the characters of a node
abbrev characters_of : Node Element → List ℕ
characters_of (Inner element) = characters_in element
characters_of (Char c) = c ∷ []

inner_characters : (nodes : List (Node Element)) → flat_map node_characters ((the_former this).map Element (List ℕ) characters_in nodes) ≡ flat_map characters_of nodes
inner_characters [] = refl
inner_characters (Inner element ∷ nodes) = ap (λ (more : List ℕ). characters_in element ++ more) (inner_characters nodes)
inner_characters (Char c ∷ nodes) = ap (λ (more : List ℕ). c ∷ more) (inner_characters nodes)

-- those of attributes
abbrev texts : List Attribute → List ℕ
texts attributes = flat_map (λ (attribute : Attribute). attribute.text) attributes

abbrev pub values : List Attr → List ℕ
values attrs = flat_map (λ (attr : Attr). attr.value) attrs

-- an element by its parts
characters_out : (element : Element) → characters_in element ≡ texts (out-Element element).attributes ++ flat_map characters_of (out-Element element).nodes
characters_out element = fold_out-Element (List ℕ) own_and_inner element ∙ ap (λ (more : List ℕ). texts (out-Element element).attributes ++ more) (inner_characters (out-Element element).nodes)

characters_rolled : (x : Element-F Element) → characters_in (roll-Element x) ≡ texts x.attributes ++ flat_map characters_of x.nodes
characters_rolled x = fold-roll-Element (List ℕ) own_and_inner x ∙ ap (λ (more : List ℕ). texts x.attributes ++ more) (inner_characters x.nodes)

-- the parts of an element whose characters are legal
legal_parts : (element : Element) → IsLegalTree element → Each IsLegal (texts (out-Element element).attributes) × Each IsLegal (flat_map characters_of (out-Element element).nodes)
legal_parts element is = each_both IsLegal (texts (out-Element element).attributes) (flat_map characters_of (out-Element element).nodes) (subst (Each IsLegal) (characters_out element) is)

pub attributes_legal : (element : Element) → IsLegalTree element → Each (λ attribute. Each IsLegal attribute.text) (out-Element element).attributes
attributes_legal element is = each_part IsLegal (λ (attribute : Attribute). attribute.text) (out-Element element).attributes (legal_parts element is).0

each_node : (nodes : List (Node Element)) → Each IsLegal (flat_map characters_of nodes) → Each IsLegalNode nodes
each_node [] each = tt
each_node (Inner element ∷ nodes) each = let both = each_both IsLegal (characters_in element) (flat_map characters_of nodes) each in (both.0, each_node nodes both.1)
each_node (Char c ∷ nodes) each = (each.0, each_node nodes each.1)

pub nodes_legal : (element : Element) → IsLegalTree element → Each IsLegalNode (out-Element element).nodes
nodes_legal element is = each_node (out-Element element).nodes (legal_parts element is).1

-- the characters that events tell
abbrev pub told : List Event → List ℕ
told [] = []
told (Opens place name attrs ∷ events) = values attrs ++ told events
told (Closes ∷ events) = told events
told (Stands c ∷ events) = c ∷ told events

pub told_append : (front back : List Event) → told (front ++ back) ≡ told front ++ told back
told_append [] back = refl
told_append (Opens place name attrs ∷ front) back = ap (λ (more : List ℕ). values attrs ++ more) (told_append front back) ∙ sym (append_assoc (values attrs) (told front) (told back))
told_append (Closes ∷ front) back = told_append front back
told_append (Stands c ∷ front) back = ap (λ (more : List ℕ). c ∷ more) (told_append front back)

-- an element with its names resolved has the characters of its events
texts_resolved : (within : List Binding) (attrs : List Attr) → texts (map (resolved_attribute within) attrs) ≡ values attrs
texts_resolved within [] = refl
texts_resolved within (attr ∷ attrs) = ap (λ (more : List ℕ). attr.value ++ more) (texts_resolved within attrs)

abbrev IsTold : Elem → Type 0
IsTold elem = (around : List Binding) → characters_in (resolved_in elem around) ≡ told (events_of elem)

told_nodes : (within : List Binding) (nodes : List (Node Elem)) → Each IsTold (elems nodes) → flat_map characters_of (map (read_node within) nodes) ≡ told (flat_map held_events nodes)
told_nodes within [] known = refl
told_nodes within (Inner elem ∷ nodes) known = ap₂ (λ (here more : List ℕ). here ++ more) (known.0 within) (told_nodes within nodes known.1) ∙ sym (told_append (events_of elem) (flat_map held_events nodes))
told_nodes within (Char c ∷ nodes) known = ap (λ (more : List ℕ). c ∷ more) (told_nodes within nodes known)

abbrev read_layer : Elem → List Binding → Element-F Element
read_layer elem within = record {
  place = (out-Elem elem).place;
  tag = tag_of (element_name (out-Elem elem).name within);
  attributes = map (resolved_attribute within) (out-Elem elem).attrs;
  nodes = map (read_node within) (out-Elem elem).nodes;
}

told_elem : (elem : Elem) → Each IsTold (elems (out-Elem elem).nodes) → IsTold elem
told_elem elem known around =
    let within = bindings_within (out-Elem elem).attrs around in
    ap characters_in (resolved_out elem around) ∙ characters_rolled (read_layer elem within)
    ∙ ap₂ (λ (here more : List ℕ). here ++ more) (texts_resolved within (out-Elem elem).attrs) (told_nodes within (out-Elem elem).nodes known)
    ∙ sym (ap told (events-begun elem) ∙ told_append (begun elem) (Closes ∷ []) ∙ append-nil (told (begun elem)))

pub told_resolved : (elem : Elem) (around : List Binding) → characters_in (resolved_in elem around) ≡ told (events_of elem)
told_resolved = every_elem IsTold told_elem
