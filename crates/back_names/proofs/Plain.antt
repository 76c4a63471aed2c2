-- Elements whose names need nothing but what the root of a written document binds.
use Rattle.std.proofs.Common.{◌≡◌, ℕ, ◌&&◌, not, Bool, true, false, cond, List, [], ◌∷◌, ◌++◌, map, refl, ap, ap₂, sym, subst, ◌∙◌, codes, Some, None}
use Rattle.std.specs.List.{flat_map, list_all}
use Rattle.std.specs.Str.{bytes_eq}
use Rattle.std.proofs.lemmas.Bool.{and_parts, or_parts, not-true}
use mathlib.Core.Former.{this}
use Rattle.markup_nodes.specs.formers.nodes.Nodes.{the_former}
use Rattle.markup_nodes.specs.declared.words.Attr.{Attr}
use Rattle.markup_nodes.specs.declared.tree.Elem.{Elem, out-Elem, roll-Elem}
use Rattle.markup_nodes.specs.declared.tree.Elem.TheOpen.{Elem-F}
use Rattle.markup_nodes.specs.declared.tree.Elem.TheViews.{out-roll-Elem}
use Rattle.markup_nodes.specs.declared.tree.Elem.TheFolds.{fold-Elem, fold_out-Elem, fold-roll-Elem, map-Elem, ind-Elem}
use Rattle.markup_nodes.specs.Node.{Node, Element, Char}
use Rattle.markup_nodes.specs.Nodes.{elems}
use Rattle.load_model.specs.declared.element.Element.{Element as Read}
use Rattle.load_model.specs.Names.{Binding, cut_name, is_same_prefix, can_be_declared, is_declaration, declared_by, bindings_within, has_bad_names, resolved_in, places_of_bad_names, bad_places_around}
use Rattle.tree_text.specs.Writing.{unplaced}
use Rattle.expanded_names.proofs.TreeLemmas.{read_node, read_of, resolved_out}
use Rattle.back_names.specs.Named.{bound, tag_named, key_named, named, named_node}
use Rattle.back_names.proofs.Parts.{elem_of, each_node, unplaced_node, unplaced_of, named_of}

-- whether no attribute declares anything
abbrev pub declares_nothing : List Attr → Bool
declares_nothing attrs = list_all (λ attr. not (is_declaration attr.name)) attrs

-- whether nothing is wrong with an element's own names, and it declares nothing
abbrev pub is_fine : List ℕ → List Attr → Bool
is_fine name attrs = declares_nothing attrs && not (has_bad_names name attrs bound)

abbrev node_is : Node Bool → Bool
node_is (Element is) = is
node_is (Char c) = true

abbrev is_plain_elem : Elem-F Bool → Bool
is_plain_elem elem = is_fine elem.name elem.attrs && list_all node_is elem.nodes

-- the same of an element and all in it
abbrev pub is_plain : Elem → Bool
is_plain = fold-Elem Bool is_plain_elem

abbrev pub is_plain_node : Node Elem → Bool
is_plain_node (Element elem) = is_plain elem
is_plain_node (Char c) = true

nodes_plain : (nodes : List (Node Elem)) → list_all node_is (each_node is_plain nodes) ≡ list_all is_plain_node nodes
nodes_plain [] = refl
nodes_plain (Element elem ∷ nodes) = ap (λ (more : Bool). is_plain elem && more) (nodes_plain nodes)
nodes_plain (Char c ∷ nodes) = nodes_plain nodes

pub plain_of : (place : ℕ) (name : List ℕ) (attrs : List Attr) (nodes : List (Node Elem)) → is_plain (elem_of place name attrs nodes) ≡ (is_fine name attrs && list_all is_plain_node nodes)
plain_of place name attrs nodes =
    fold-roll-Elem Bool is_plain_elem (record { place = place; name = name; attrs = attrs; nodes = nodes }) ∙ ap (λ (more : Bool). is_fine name attrs && more) (nodes_plain nodes)

-- attributes that declare nothing bind nothing
module _ (attr : Attr) where
  bare_binding : Binding
  bare_binding = record { prefix = None; namespace = attr.value }

  prefix_binding : Binding
  prefix_binding = record { prefix = Some (cut_name attr.name).local_name; namespace = attr.value }

  binds_nothing : is_declaration attr.name ≡ false → declared_by attr ≡ []
  unfolding bare_binding prefix_binding
  binds_nothing no_declaration =
      let parts = or_parts (bytes_eq attr.name (codes "xmlns")) (is_same_prefix (cut_name attr.name).prefix (Some (codes "xmlns"))) no_declaration in
      ap₂ (λ (one other : Bool). cond one (bare_binding ∷ []) (cond (other && can_be_declared (cut_name attr.name).local_name) (prefix_binding ∷ []) [])) parts.0 parts.1

none_bound : (attrs : List Attr) → declares_nothing attrs ≡ true → flat_map declared_by attrs ≡ []
none_bound [] none = refl
none_bound (attr ∷ attrs) none =
    let parts = and_parts (not (is_declaration attr.name)) (declares_nothing attrs) none in
    ap₂ (λ (one other : List Binding). one ++ other) (binds_nothing attr (not-true (is_declaration attr.name) parts.0)) (none_bound attrs parts.1)

within_bound : (attrs : List Attr) → declares_nothing attrs ≡ true → bindings_within attrs bound ≡ bound
within_bound attrs none = ap (λ (bindings : List Binding). bindings ++ bound) (none_bound attrs none)

-- an element by its parts, as it is resolved
resolved_of : (place : ℕ) (name : List ℕ) (attrs : List Attr) (nodes : List (Node Elem)) (around : List Binding)
    → resolved_in (elem_of place name attrs nodes) around ≡ read_of place name attrs (map (read_node (bindings_within attrs around)) nodes) (bindings_within attrs around)
resolved_of place name attrs nodes around =
    resolved_out (elem_of place name attrs nodes) around
    ∙ ap (λ (parts : Elem-F Elem). read_of parts.place parts.name parts.attrs (map (read_node (bindings_within parts.attrs around)) parts.nodes) (bindings_within parts.attrs around))
    (out-roll-Elem (record { place = place; name = name; attrs = attrs; nodes = nodes }))

-- where its names go against the rules
abbrev pub own_places : ℕ → List ℕ → List Attr → List Binding → List ℕ
own_places place name attrs within = cond (has_bad_names name attrs within) (place ∷ []) []

abbrev pub bad_in : List Binding → List (Node Elem) → List ℕ
bad_in within nodes = flat_map (λ (elem : Elem). places_of_bad_names elem within) (elems nodes)

nodes_bad : (within : List Binding) (nodes : List (Node Elem)) → flat_map (λ (inner : List Binding → List ℕ). inner within) (elems (each_node places_of_bad_names nodes)) ≡ bad_in within nodes
nodes_bad within [] = refl
nodes_bad within (Element elem ∷ nodes) = ap (λ (more : List ℕ). places_of_bad_names elem within ++ more) (nodes_bad within nodes)
nodes_bad within (Char c ∷ nodes) = nodes_bad within nodes

pub bad_out : (elem : Elem) (around : List Binding) → places_of_bad_names elem around
    ≡ own_places (out-Elem elem).place (out-Elem elem).name (out-Elem elem).attrs (bindings_within (out-Elem elem).attrs around) ++ bad_in (bindings_within (out-Elem elem).attrs around) (out-Elem elem).nodes
bad_out elem around =
    ap (λ (f : List Binding → List ℕ). f around) (fold_out-Elem (List Binding → List ℕ) bad_places_around elem)
    ∙ ap (λ (more : List ℕ). own_places (out-Elem elem).place (out-Elem elem).name (out-Elem elem).attrs (bindings_within (out-Elem elem).attrs around) ++ more)
    (nodes_bad (bindings_within (out-Elem elem).attrs around) (out-Elem elem).nodes)

bad_of : (place : ℕ) (name : List ℕ) (attrs : List Attr) (nodes : List (Node Elem)) (around : List Binding)
    → places_of_bad_names (elem_of place name attrs nodes) around ≡ own_places place name attrs (bindings_within attrs around) ++ bad_in (bindings_within attrs around) nodes
bad_of place name attrs nodes around =
    bad_out (elem_of place name attrs nodes) around
    ∙ ap (λ (parts : Elem-F Elem). own_places parts.place parts.name parts.attrs (bindings_within parts.attrs around) ++ bad_in (bindings_within parts.attrs around) parts.nodes)
    (out-roll-Elem (record { place = place; name = name; attrs = attrs; nodes = nodes }))

-- what a plain element is read as
record IsRead (elem : Elem) : Type 0 where
  named : resolved_in elem bound ≡ named elem
  good : places_of_bad_names elem bound ≡ []

abbrev Reads : Elem → Type 0
Reads elem = is_plain elem ≡ true → IsRead elem

abbrev ReadElem : Type 0
ReadElem = (elem : Elem) × Reads elem

abbrev bare : ReadElem → Elem
bare one = one.0

abbrev bared : List (Node ReadElem) → List (Node Elem)
bared = (the_former this).map ReadElem Elem bare

nodes_read : (nodes : List (Node ReadElem)) → list_all is_plain_node (bared nodes) ≡ true
    → (map (read_node bound) (bared nodes) ≡ map named_node (bared nodes)) × (bad_in bound (bared nodes) ≡ [])
nodes_read [] plain = (refl, refl)
nodes_read (Element elem ∷ nodes) plain =
    let parts = and_parts (is_plain elem.0) (list_all is_plain_node (bared nodes)) plain in
    let first = elem.1 parts.0 in
    let more = nodes_read nodes parts.1 in
    (ap₂ (λ (one : Read) (others : List (Node Read)). Element one ∷ others) first.named more.0, ap₂ (λ (one others : List ℕ). one ++ others) first.good more.1)
nodes_read (Char c ∷ nodes) plain =
    let more = nodes_read nodes plain in
    (ap (λ (others : List (Node Read)). Char c ∷ others) more.0, more.1)

rolled_read : (place : ℕ) (name : List ℕ) (attrs : List Attr) (nodes : List (Node ReadElem)) → Reads (elem_of place name attrs (bared nodes))
unfolding tag_named key_named
rolled_read place name attrs nodes plain =
    let inner = bared nodes in
    let parts = and_parts (is_fine name attrs) (list_all is_plain_node inner) (sym (plain_of place name attrs inner) ∙ plain) in
    let own = and_parts (declares_nothing attrs) (not (has_bad_names name attrs bound)) parts.0 in
    let held = nodes_read nodes parts.1 in
    let within = within_bound attrs own.0 in
    record {
      named =
          resolved_of place name attrs inner bound
          ∙ ap (λ (bindings : List Binding). read_of place name attrs (map (read_node bindings) inner) bindings) within
          ∙ ap (λ (others : List (Node Read)). read_of place name attrs others bound) held.0
          ∙ sym (named_of place name attrs inner);
      good =
          bad_of place name attrs inner bound
          ∙ ap (λ (bindings : List Binding). own_places place name attrs bindings ++ bad_in bindings inner) within
          ∙ ap (λ (bad : Bool). cond bad (place ∷ []) [] ++ bad_in bound inner) (not-true (has_bad_names name attrs bound) own.1)
          ∙ held.1;
    }

elem_step : (x : Elem-F Elem) (y : Elem-F ReadElem) → map-Elem ReadElem Elem bare y ≡ x → Reads (roll-Elem x)
elem_step x y is = subst (λ (z : Elem-F Elem). Reads (roll-Elem z)) is (rolled_read y.place y.name y.attrs y.nodes)

elem_read : (elem : Elem) → Reads elem
elem_read = ind-Elem Reads elem_step

pub nodes_back : (nodes : List (Node Elem)) → list_all is_plain_node nodes ≡ true → (map (read_node bound) nodes ≡ map named_node nodes) × (bad_in bound nodes ≡ [])
nodes_back [] plain = (refl, refl)
nodes_back (Element elem ∷ nodes) plain =
    let parts = and_parts (is_plain elem) (list_all is_plain_node nodes) plain in
    let first = elem_read elem parts.0 in
    let more = nodes_back nodes parts.1 in
    (ap₂ (λ (one : Read) (others : List (Node Read)). Element one ∷ others) first.named more.0, ap₂ (λ (one others : List ℕ). one ++ others) first.good more.1)
nodes_back (Char c ∷ nodes) plain =
    let more = nodes_back nodes plain in
    (ap (λ (others : List (Node Read)). Char c ∷ others) more.0, more.1)

-- places are of no account
abbrev Stays : Elem → Type 0
Stays elem = is_plain (unplaced elem) ≡ is_plain elem

abbrev StaysElem : Type 0
StaysElem = (elem : Elem) × Stays elem

abbrev bare_stays : StaysElem → Elem
bare_stays one = one.0

nodes_stay : (nodes : List (Node StaysElem)) → list_all is_plain_node (map unplaced_node ((the_former this).map StaysElem Elem bare_stays nodes)) ≡ list_all is_plain_node ((the_former this).map StaysElem Elem bare_stays nodes)
nodes_stay [] = refl
nodes_stay (Element elem ∷ nodes) = ap₂ (λ (one more : Bool). one && more) elem.1 (nodes_stay nodes)
nodes_stay (Char c ∷ nodes) = nodes_stay nodes

stays_step : (x : Elem-F Elem) (y : Elem-F StaysElem) → map-Elem StaysElem Elem bare_stays y ≡ x → Stays (roll-Elem x)
stays_step x y is =
    let inner = (the_former this).map StaysElem Elem bare_stays y.nodes in
    subst (λ (z : Elem-F Elem). Stays (roll-Elem z)) is
    (ap is_plain (unplaced_of y.place y.name y.attrs inner) ∙ plain_of 0 y.name y.attrs (map unplaced_node inner)
    ∙ ap (λ (more : Bool). is_fine y.name y.attrs && more) (nodes_stay y.nodes) ∙ sym (plain_of y.place y.name y.attrs inner))

elem_stays : (elem : Elem) → Stays elem
elem_stays = ind-Elem Stays stays_step

unplaced_plain : (nodes : List (Node Elem)) → list_all is_plain_node (map unplaced_node nodes) ≡ list_all is_plain_node nodes
unplaced_plain [] = refl
unplaced_plain (Element elem ∷ nodes) = ap₂ (λ (one more : Bool). one && more) (elem_stays elem) (unplaced_plain nodes)
unplaced_plain (Char c ∷ nodes) = unplaced_plain nodes

pub alike_plain : (nodes others : List (Node Elem)) → map unplaced_node nodes ≡ map unplaced_node others → list_all is_plain_node others ≡ true → list_all is_plain_node nodes ≡ true
alike_plain nodes others same plain = sym (unplaced_plain nodes) ∙ ap (list_all is_plain_node) same ∙ unplaced_plain others ∙ plain
