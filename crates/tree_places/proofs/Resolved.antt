-- A tree with its names resolved has its places, and those of bad names are some of them.
use Rattle.std.proofs.Common.{◌≡◌, ◌<◌, ◌≤◌, ℕ, Bool, true, false, cond, List, [], ◌∷◌, ◌++◌, map, refl, sym, ap, ap₂, ◌∙◌, subst, arith}
use Rattle.std.specs.Prelude.{AllPairs}
use Rattle.std.specs.List.{flat_map, AllByRecursion as Each}
use mathlib.Core.Former.{this}
use Rattle.markup_nodes.specs.formers.nodes.Nodes.{the_former}
use Rattle.markup_nodes.specs.declared.tree.Elem.{Elem, out-Elem}
use Rattle.markup_nodes.specs.declared.tree.Elem.TheFolds.{fold_out-Elem}
use Rattle.markup_nodes.specs.Node.{Node, Element, Char}
use Rattle.markup_nodes.specs.Nodes.{elems}
use Rattle.load_model.specs.declared.element.Element.TheOpen.{Element-F}
use Rattle.load_model.specs.declared.element.Element.{Element as Read}
use Rattle.load_model.specs.Names.{Binding, bindings_within, has_bad_names, tag_of, element_name, resolved_attribute, resolved_in, resolved, bad_places_around, places_of_bad_names}
use Rattle.expanded_names.proofs.TreeLemmas.{read_node, resolved_out}
use Rattle.tree_places.specs.Order.{places_in, IsInOrder, tag_places, AreTagsInOrder}
use Rattle.tree_places.proofs.Within.{Within, within_self, within_append, within_each, within_is, within_all, pairs_of, all_pairs, pairs_within, pairs_weaker}
use Rattle.tree_places.proofs.Trees.{every_elem, tags_out, places_rolled}

-- the places of a tree are those of its tags
abbrev IsPlaced : Elem → Type 0
IsPlaced elem = (around : List Binding) → places_in (resolved_in elem around) ≡ tag_places elem

placed_nodes : (within : List Binding) (nodes : List (Node Elem)) → Each IsPlaced (elems nodes) → flat_map places_in (elems (map (read_node within) nodes)) ≡ flat_map tag_places (elems nodes)
placed_nodes within [] known = refl
placed_nodes within (Element elem ∷ nodes) known = ap₂ (λ (here more : List ℕ). here ++ more) (known.0 within) (placed_nodes within nodes known.1)
placed_nodes within (Char c ∷ nodes) known = placed_nodes within nodes known

abbrev read_layer : Elem → List Binding → Element-F Read
read_layer elem within = record {
  place = (out-Elem elem).place;
  tag = tag_of (element_name (out-Elem elem).name within);
  attributes = map (resolved_attribute within) (out-Elem elem).attrs;
  nodes = map (read_node within) (out-Elem elem).nodes;
}

placed_elem : (elem : Elem) → Each IsPlaced (elems (out-Elem elem).nodes) → IsPlaced elem
placed_elem elem known around =
    let within = bindings_within (out-Elem elem).attrs around in
    ap places_in (resolved_out elem around) ∙ places_rolled (read_layer elem within)
    ∙ ap (λ (more : List ℕ). (out-Elem elem).place ∷ more) (placed_nodes within (out-Elem elem).nodes known) ∙ sym (tags_out elem)

pub places_resolved : (elem : Elem) (around : List Binding) → places_in (resolved_in elem around) ≡ tag_places elem
places_resolved = every_elem IsPlaced placed_elem

pub resolved_in_order : (root : Elem) → AreTagsInOrder root → IsInOrder (resolved root)
resolved_in_order root h = subst (AllPairs (λ place other. place < other)) (sym (places_resolved root [])) h

-- the places of bad names stand within those of tags
abbrev AreBadWithin : Elem → Type 0
AreBadWithin elem = (around : List Binding) → Within (places_of_bad_names elem around) (tag_places elem)

bad_nodes : (within : List Binding) (nodes : List (Node Elem))
    → flat_map (λ (inner : List Binding → List ℕ). inner within) (elems ((the_former this).map Elem (List Binding → List ℕ) places_of_bad_names nodes)) ≡ flat_map (λ (elem : Elem). places_of_bad_names elem within) (elems nodes)
bad_nodes within [] = refl
bad_nodes within (Element elem ∷ nodes) = ap (λ (more : List ℕ). places_of_bad_names elem within ++ more) (bad_nodes within nodes)
bad_nodes within (Char c ∷ nodes) = bad_nodes within nodes

abbrev own_place : Elem → List Binding → List ℕ
own_place elem within = cond (has_bad_names (out-Elem elem).name (out-Elem elem).attrs within) ((out-Elem elem).place ∷ []) []

bad_out : (elem : Elem) (around : List Binding) → places_of_bad_names elem around
    ≡ own_place elem (bindings_within (out-Elem elem).attrs around) ++ flat_map (λ (inner : Elem). places_of_bad_names inner (bindings_within (out-Elem elem).attrs around)) (elems (out-Elem elem).nodes)
bad_out elem around =
    ap (λ (f : List Binding → List ℕ). f around) (fold_out-Elem (List Binding → List ℕ) bad_places_around elem)
    ∙ ap (λ (more : List ℕ). own_place elem (bindings_within (out-Elem elem).attrs around) ++ more) (bad_nodes (bindings_within (out-Elem elem).attrs around) (out-Elem elem).nodes)

one_or_none : (b : Bool) (place : ℕ) → Within (cond b (place ∷ []) []) (place ∷ [])
one_or_none true place = within_self (place ∷ [])
one_or_none false place = tt

each_at : (within : List Binding) (inner : List Elem) → Each AreBadWithin inner → Each (λ (elem : Elem). Within (places_of_bad_names elem within) (tag_places elem)) inner
each_at within [] known = tt
each_at within (elem ∷ inner) known = (known.0 within, each_at within inner known.1)

bad_elem : (elem : Elem) → Each AreBadWithin (elems (out-Elem elem).nodes) → AreBadWithin elem
bad_elem elem known around =
    let within = bindings_within (out-Elem elem).attrs around in
    let inner = elems (out-Elem elem).nodes in
    let bad = λ (one : Elem). places_of_bad_names one within in
    let own = own_place elem within in
    within_is (places_of_bad_names elem around) (own ++ flat_map bad inner) (tag_places elem) (bad_out elem around)
    (within_all (own ++ flat_map bad inner) ((out-Elem elem).place ∷ flat_map tag_places inner) (tag_places elem)
    (within_append own ((out-Elem elem).place ∷ []) (flat_map bad inner) (flat_map tag_places inner)
    (one_or_none (has_bad_names (out-Elem elem).name (out-Elem elem).attrs within) (out-Elem elem).place)
    (within_each bad tag_places inner (each_at within inner known)))
    (sym (tags_out elem)))

bad_within : (elem : Elem) → AreBadWithin elem
bad_within = every_elem AreBadWithin bad_elem

not_more : (x y : ℕ) → x < y → x ≤ y
not_more x y l = omega (arith, l)

pub bad_rise : (root : Elem) → AreTagsInOrder root → AllPairs (λ place other. place ≤ other) (places_of_bad_names root [])
bad_rise root h =
    all_pairs (λ place other. place ≤ other) (places_of_bad_names root [])
    (pairs_weaker (λ place other. place < other) (λ place other. place ≤ other) not_more (places_of_bad_names root [])
    (pairs_within (λ place other. place < other) (places_of_bad_names root []) (tag_places root) (bad_within root []) (pairs_of (λ place other. place < other) (tag_places root) h)))
