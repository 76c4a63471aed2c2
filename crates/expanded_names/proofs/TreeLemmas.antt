-- A tree resolved, level by level.
use Rattle.std.proofs.Common.{◌≡◌, ◌<◌, ℕ, cond, List, [], ◌∷◌, ◌++◌, length, map, slice_index_or, refl, sym, ap, ap₂, ◌∙◌, append-nil, arith, zero, suc, Option, Some, None}
use Rattle.std.specs.List.{flat_map, AllByRecursion as Each}
use mathlib.Core.Former.{this}
use Rattle.markup_nodes.specs.formers.nodes.Nodes.{the_former}
use Rattle.markup_nodes.specs.declared.words.Attr.{Attr}
use Rattle.markup_nodes.specs.declared.nodes.Turn.{Turn}
use Rattle.markup_nodes.specs.declared.tree.Elem.{Elem, out-Elem}
use Rattle.markup_nodes.specs.declared.tree.Elem.TheFolds.{fold_out-Elem}
use Rattle.markup_nodes.specs.declared.tree.Elem.TheViews.{size-Elem}
use Rattle.markup_nodes.specs.Node.{Node, Element, Char}
use Rattle.markup_nodes.specs.Nodes.{char_nodes, turn_nodes, nodes_of, elems, turns_of}
use Rattle.markup_nodes.proofs.NodeLemmas.{turns_back}
use Rattle.markup_nodes.proofs.SizeLemmas.{smaller}
use Rattle.load_model.specs.declared.element.Element.{Element as Read, roll-Element}
use Rattle.load_model.specs.Names.{Binding, bindings_within, resolved_node, resolved_in, resolved_around, resolved_attribute, tag_of, element_name, places_of_bad_names, bad_places_around, has_bad_names}
use Rattle.load_model.specs.declared.names.Tag.{Tag}
use Rattle.load_model.specs.declared.element.Attribute.{Attribute}
use Rattle.expanded_names.specs.Scope.{Pairs, in_force, Holds}
use Rattle.expanded_names.specs.Places.{first_place, turn_in}

-- a node, resolved
abbrev pub read_node : List Binding → Node Elem → Node Read
read_node bindings (Element elem) = Element (resolved_in elem bindings)
read_node bindings (Char c) = Char c

nodes_resolved : (bindings : List Binding) (nodes : List (Node Elem))
    → map (resolved_node bindings) ((the_former this).map Elem (List Binding → Read) resolved_in nodes) ≡ map (read_node bindings) nodes
nodes_resolved bindings [] = refl
nodes_resolved bindings (Element elem ∷ nodes) = ap (λ (more : List (Node Read)). Element (resolved_in elem bindings) ∷ more) (nodes_resolved bindings nodes)
nodes_resolved bindings (Char c ∷ nodes) = ap (λ (more : List (Node Read)). Char c ∷ more) (nodes_resolved bindings nodes)

-- an element of these parts, resolved
abbrev pub read_of : ℕ → List ℕ → List Attr → List (Node Read) → List Binding → Read
read_of place name attrs nodes bindings = roll-Element (record { place = place; tag = tag_of (element_name name bindings); attributes = map (resolved_attribute bindings) attrs; nodes = nodes })

pub resolved_out : (elem : Elem) (around : List Binding) → resolved_in elem around
    ≡ read_of (out-Elem elem).place (out-Elem elem).name (out-Elem elem).attrs (map (read_node (bindings_within (out-Elem elem).attrs around)) (out-Elem elem).nodes) (bindings_within (out-Elem elem).attrs around)
resolved_out elem around =
    ap (λ (f : List Binding → Read). f around) (fold_out-Elem (List Binding → Read) resolved_around elem)
    ∙ ap (λ (nodes : List (Node Read)). read_of (out-Elem elem).place (out-Elem elem).name (out-Elem elem).attrs nodes (bindings_within (out-Elem elem).attrs around))
    (nodes_resolved (bindings_within (out-Elem elem).attrs around) (out-Elem elem).nodes)

-- turns resolved are nodes resolved
chars_read : (bindings : List Binding) (cs : List ℕ) → map (read_node bindings) (char_nodes cs) ≡ char_nodes cs
chars_read bindings [] = refl
chars_read bindings (c ∷ cs) = ap (λ (more : List (Node Read)). Char c ∷ more) (chars_read bindings cs)

read_append : (bindings : List Binding) (xs ys : List (Node Elem)) → map (read_node bindings) (xs ++ ys) ≡ map (read_node bindings) xs ++ map (read_node bindings) ys
read_append bindings [] ys = refl
read_append bindings (x ∷ xs) ys = ap (λ (more : List (Node Read)). read_node bindings x ∷ more) (read_append bindings xs ys)

turns_read : (bindings : List Binding) (turns : List (Turn Elem)) → flat_map turn_nodes (map (turn_in bindings) turns) ≡ map (read_node bindings) (flat_map turn_nodes turns)
turns_read bindings [] = refl
turns_read bindings (turn ∷ turns) =
    ap₂ (λ (a b : List (Node Read)). a ++ b) (ap (λ (more : List (Node Read)). Element (resolved_in turn.elem bindings) ∷ more) (sym (chars_read bindings turn.after))) (turns_read bindings turns)
    ∙ sym (read_append bindings (turn_nodes turn) (flat_map turn_nodes turns))

pub parts_read : (bindings : List Binding) (first : List ℕ) (turns : List (Turn Elem)) → nodes_of first (map (turn_in bindings) turns) ≡ map (read_node bindings) (nodes_of first turns)
parts_read bindings first turns =
    ap₂ (λ (a b : List (Node Read)). a ++ b) (sym (chars_read bindings first)) (turns_read bindings turns) ∙ sym (read_append bindings (char_nodes first) (flat_map turn_nodes turns))

-- bad places
abbrev pub bad_in_turns : List Binding → List (Turn Elem) → List ℕ
bad_in_turns bindings turns = flat_map (λ (turn : Turn Elem). places_of_bad_names turn.elem bindings) turns

abbrev bad_in_nodes : List Binding → List (Node Elem) → List ℕ
bad_in_nodes bindings nodes = flat_map (λ (inner : List Binding → List ℕ). inner bindings) (elems ((the_former this).map Elem (List Binding → List ℕ) places_of_bad_names nodes))

bad_behind_chars : (bindings : List Binding) (cs : List ℕ) (nodes : List (Node Elem)) → bad_in_nodes bindings (char_nodes cs ++ nodes) ≡ bad_in_nodes bindings nodes
bad_behind_chars bindings [] nodes = refl
bad_behind_chars bindings (c ∷ cs) nodes = bad_behind_chars bindings cs nodes

bad_turns : (bindings : List Binding) (turns : List (Turn Elem)) → bad_in_nodes bindings (flat_map turn_nodes turns) ≡ bad_in_turns bindings turns
bad_turns bindings [] = refl
bad_turns bindings (turn ∷ turns) = ap (λ (more : List ℕ). places_of_bad_names turn.elem bindings ++ more) (bad_behind_chars bindings turn.after (flat_map turn_nodes turns) ∙ bad_turns bindings turns)

pub bad_out : (elem : Elem) (around : List Binding) (first : List ℕ) (turns : List (Turn Elem)) → nodes_of first turns ≡ (out-Elem elem).nodes → places_of_bad_names elem around
    ≡ cond (has_bad_names (out-Elem elem).name (out-Elem elem).attrs (bindings_within (out-Elem elem).attrs around)) ((out-Elem elem).place ∷ []) [] ++ bad_in_turns (bindings_within (out-Elem elem).attrs around) turns
bad_out elem around first turns e =
    ap (λ (f : List Binding → List ℕ). f around) (fold_out-Elem (List Binding → List ℕ) bad_places_around elem)
    ∙ ap (λ (more : List ℕ). cond (has_bad_names (out-Elem elem).name (out-Elem elem).attrs (bindings_within (out-Elem elem).attrs around)) ((out-Elem elem).place ∷ []) [] ++ more)
    (ap (bad_in_nodes (bindings_within (out-Elem elem).attrs around)) (sym e)
    ∙ bad_behind_chars (bindings_within (out-Elem elem).attrs around) first (flat_map turn_nodes turns) ∙ bad_turns (bindings_within (out-Elem elem).attrs around) turns)

pub first_of_both : (bad : Option ℕ) (xs ys : List ℕ) → first_place (first_place bad xs) ys ≡ first_place bad (xs ++ ys)
first_of_both (Some place) xs ys = refl
first_of_both None [] ys = refl
first_of_both None (x ∷ xs) ys = refl

-- each turn's element is smaller
each_by_index : {X : Type 0} (P : X → Type 0) (xs : List X) → ((i : ℕ) (x : X) → i < length xs → x ≡ slice_index_or xs i x → P x) → Each P xs
each_by_index P [] h = tt
each_by_index P (x ∷ xs) h = (h zero x (omega arith) refl, each_by_index P xs (λ i y l e. h (suc i) y (omega (arith, l)) e))

pub all_smaller : (elem : Elem) (first : List ℕ) (turns : List (Turn Elem)) → nodes_of first turns ≡ (out-Elem elem).nodes → Each (λ (turn : Turn Elem). size-Elem turn.elem < size-Elem elem) turns
all_smaller elem first turns e =
    let same : turns ≡ turns_of (out-Elem elem).nodes = sym (turns_back first turns) ∙ ap turns_of e in
    each_by_index (λ (turn : Turn Elem). size-Elem turn.elem < size-Elem elem) turns
    (λ i turn l is. smaller elem i turn (rw (← same) l) (is ∙ ap (λ (ts : List (Turn Elem)). slice_index_or ts i turn) same))

pub nothing_left : {X : Type 0} (xs : List X) → length xs ≡ 0 → xs ≡ []
nothing_left [] h = refl
nothing_left (x ∷ xs) h = absurd (omega arith)

pub element_is : (elem : Elem) (around : List Binding) (tag : Tag) (attributes : List Attribute) (nodes : List (Node Read))
    → tag ≡ tag_of (element_name (out-Elem elem).name (bindings_within (out-Elem elem).attrs around))
    → attributes ≡ map (resolved_attribute (bindings_within (out-Elem elem).attrs around)) (out-Elem elem).attrs
    → nodes ≡ map (read_node (bindings_within (out-Elem elem).attrs around)) (out-Elem elem).nodes
    → roll-Element (record { place = (out-Elem elem).place; tag = tag; attributes = attributes; nodes = nodes }) ≡ resolved_in elem around
element_is elem around tag attributes nodes t a n =
    ap (λ (one : Tag). roll-Element (record { place = (out-Elem elem).place; tag = one; attributes = attributes; nodes = nodes })) t
    ∙ ap₂ (λ (one : List Attribute) (other : List (Node Read)).
    roll-Element (record { place = (out-Elem elem).place; tag = tag_of (element_name (out-Elem elem).name (bindings_within (out-Elem elem).attrs around)); attributes = one; nodes = other })) a n
    ∙ sym (resolved_out elem around)

pub nodes_are : (elem : Elem) (within : List Binding) (first : List ℕ) (turns : List (Turn Elem)) (whole left : List (Turn Elem)) (read : List (Turn Read)) (nodes : List (Node Read))
    → nodes_of first turns ≡ (out-Elem elem).nodes → whole ≡ turns → left ≡ [] → map (turn_in within) whole ≡ read ++ map (turn_in within) left → nodes ≡ nodes_of first read
    → nodes ≡ map (read_node within) (out-Elem elem).nodes
nodes_are elem within first turns whole left read nodes e w none r n =
    let all : map (turn_in within) turns ≡ read =
    ap (map (turn_in within)) (sym w) ∙ r ∙ ap (λ (ts : List (Turn Elem)). read ++ map (turn_in within) ts) none ∙ append-nil read in
    n ∙ ap (nodes_of first) (sym all) ∙ parts_read within first turns ∙ ap (map (read_node within)) e

none_more : (bad : Option ℕ) → first_place bad [] ≡ bad
none_more (Some place) = refl
none_more None = refl

pub bad_is : (elem : Elem) (around : List Binding) (first : List ℕ) (turns whole left : List (Turn Elem)) (old noted last : Option ℕ)
    → nodes_of first turns ≡ (out-Elem elem).nodes → whole ≡ turns → left ≡ []
    → noted ≡ first_place old (cond (has_bad_names (out-Elem elem).name (out-Elem elem).attrs (bindings_within (out-Elem elem).attrs around)) ((out-Elem elem).place ∷ []) [])
    → first_place last (bad_in_turns (bindings_within (out-Elem elem).attrs around) left) ≡ first_place noted (bad_in_turns (bindings_within (out-Elem elem).attrs around) whole)
    → last ≡ first_place old (places_of_bad_names elem around)
bad_is elem around first turns whole left old noted last e w none n b =
    sym (none_more last)
    ∙ ap (λ (ts : List (Turn Elem)). first_place last (bad_in_turns (bindings_within (out-Elem elem).attrs around) ts)) (sym none) ∙ b
    ∙ ap (λ (ts : List (Turn Elem)). first_place noted (bad_in_turns (bindings_within (out-Elem elem).attrs around) ts)) w
    ∙ ap (λ (one : Option ℕ). first_place one (bad_in_turns (bindings_within (out-Elem elem).attrs around) turns)) n
    ∙ first_of_both old (cond (has_bad_names (out-Elem elem).name (out-Elem elem).attrs (bindings_within (out-Elem elem).attrs around)) ((out-Elem elem).place ∷ []) []) (bad_in_turns (bindings_within (out-Elem elem).attrs around) turns)
    ∙ ap (first_place old) (sym (bad_out elem around first turns e))

pub holds_alike : (old new : Pairs) (bindings : List Binding) → ((prefix : List ℕ) → in_force new prefix ≡ in_force old prefix) → Holds old bindings → Holds new bindings
holds_alike old new bindings same holds = record {
  unprefixed = same [] ∙ holds.unprefixed;
  prefixed = λ prefix h. same prefix ∙ holds.prefixed prefix h;
}

pub nothing_holds : (pairs : Pairs) → pairs ≡ [] → Holds pairs []
nothing_holds pairs e = record {
  unprefixed = ap (λ (all : Pairs). in_force all []) e;
  prefixed = λ prefix h. ap (λ (all : Pairs). in_force all prefix) e;
}
