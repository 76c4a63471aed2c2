-- A tree is known by its events.
use Rattle.std.proofs.Common.{◌≡◌, ℕ, List, [], ◌∷◌, ◌++◌, refl, ap, sym, ◌∙◌, subst, append_assoc}
use Rattle.std.specs.List.{flat_map}
use mathlib.Core.Former.{this}
use Rattle.markup_nodes.specs.formers.nodes.Nodes.{the_former}
use Rattle.markup_nodes.specs.declared.words.Attr.{Attr}
use Rattle.markup_nodes.specs.declared.tree.Elem.{Elem, out-Elem, roll-Elem}
use Rattle.markup_nodes.specs.declared.tree.Elem.TheOpen.{Elem-F}
use Rattle.markup_nodes.specs.declared.tree.Elem.TheViews.{roll-out-Elem}
use Rattle.markup_nodes.specs.declared.tree.Elem.TheFolds.{fold-roll-Elem, fold_out-Elem, map-Elem, ind-Elem}
use Rattle.markup_nodes.specs.Node.{Node, Element, Char}
use Rattle.markup_tree.specs.Documents.{Event, Opens, Closes, Stands, node_events, elem_events, events_of}
use Rattle.markup_tree.specs.Stacks.{held_events, begun}

-- the events of several nodes
abbrev pub evs : List (Node Elem) → List Event
evs = flat_map held_events

nodes_events : (nodes : List (Node Elem)) → flat_map node_events ((the_former this).map Elem (List Event) events_of nodes) ≡ evs nodes
nodes_events [] = refl
nodes_events (Element elem ∷ nodes) = ap (λ (t : List Event). events_of elem ++ t) (nodes_events nodes)
nodes_events (Char c ∷ nodes) = ap (λ (t : List Event). Stands c ∷ t) (nodes_events nodes)

abbrev enclosed : ℕ → List ℕ → List Attr → List Event → List Event
enclosed place name attrs inner = Opens place name attrs ∷ (inner ++ Closes ∷ [])

pub events-roll : (x : Elem-F Elem) → events_of (roll-Elem x) ≡ Opens x.place x.name x.attrs ∷ (evs x.nodes ++ Closes ∷ [])
events-roll x = fold-roll-Elem (List Event) elem_events x ∙ ap (enclosed x.place x.name x.attrs) (nodes_events x.nodes)

pub events-begun : (elem : Elem) → events_of elem ≡ begun elem ++ Closes ∷ []
events-begun elem = fold_out-Elem (List Event) elem_events elem ∙ ap (enclosed (out-Elem elem).place (out-Elem elem).name (out-Elem elem).attrs) (nodes_events (out-Elem elem).nodes)

-- an element begins with other events than its end or a character
elem_closes : (elem : Elem) (xs ys : List Event) → Closes ∷ xs ≡ events_of elem ++ ys → ⊥
elem_closes elem xs ys e = let f = e ∙ ap (λ (t : List Event). t ++ ys) (events-begun elem) in cc

elem_char : (elem : Elem) (c : ℕ) (xs ys : List Event) → events_of elem ++ xs ≡ Stands c ∷ ys → ⊥
elem_char elem c xs ys e = let f = ap (λ (t : List Event). t ++ xs) (sym (events-begun elem)) ∙ e in cc

stands_same : {c d : ℕ} {xs ys : List Event} → Stands c ∷ xs ≡ Stands d ∷ ys → (c ≡ d) × (xs ≡ ys)
stands_same e = (cc, cc)

opens_same : {p q : ℕ} {n m : List ℕ} {a b : List Attr} {xs ys : List Event} → Opens p n a ∷ xs ≡ Opens q m b ∷ ys → (p ≡ q) × (n ≡ m) × (a ≡ b) × (xs ≡ ys)
opens_same e = (cc, cc, cc, cc)

abbrev Known : Elem → Type 0
Known elem = (other : Elem) (xs ys : List Event) → events_of elem ++ xs ≡ events_of other ++ ys → (elem ≡ other) × (xs ≡ ys)

-- an element with its proof
abbrev KnownElem : Type 0
KnownElem = (elem : Elem) × Known elem

abbrev bare : KnownElem → Elem
bare known = known.0

abbrev bared : List (Node KnownElem) → List (Node Elem)
bared = (the_former this).map KnownElem Elem bare

nodes_known : (nodes : List (Node KnownElem)) (others : List (Node Elem)) (xs ys : List Event) → evs (bared nodes) ++ Closes ∷ xs ≡ evs others ++ Closes ∷ ys → (bared nodes ≡ others) × (xs ≡ ys)
nodes_known [] [] xs ys e = (refl, (let f : xs ≡ ys = cc in f))
nodes_known [] (Element other ∷ others) xs ys e = absurd (elem_closes other xs (evs others ++ Closes ∷ ys) (e ∙ append_assoc (events_of other) (evs others) (Closes ∷ ys)))
nodes_known [] (Char d ∷ others) xs ys e = absurd (cc)
nodes_known (Element elem ∷ nodes) [] xs ys e =
    absurd (elem_closes elem.0 ys (evs (bared nodes) ++ Closes ∷ xs) (sym e ∙ append_assoc (events_of elem.0) (evs (bared nodes)) (Closes ∷ xs)))
nodes_known (Char c ∷ nodes) [] xs ys e = absurd (cc)
nodes_known (Element elem ∷ nodes) (Element other ∷ others) xs ys e =
    let first = elem.1 other (evs (bared nodes) ++ Closes ∷ xs) (evs others ++ Closes ∷ ys)
    (sym (append_assoc (events_of elem.0) (evs (bared nodes)) (Closes ∷ xs)) ∙ (e ∙ append_assoc (events_of other) (evs others) (Closes ∷ ys))) in
    let more = nodes_known nodes others xs ys first.1 in
    (ap (λ (x : Elem). Element x ∷ bared nodes) first.0 ∙ ap (λ (ns : List (Node Elem)). Element other ∷ ns) more.0, more.1)
nodes_known (Element elem ∷ nodes) (Char d ∷ others) xs ys e =
    absurd (elem_char elem.0 d (evs (bared nodes) ++ Closes ∷ xs) (evs others ++ Closes ∷ ys) (sym (append_assoc (events_of elem.0) (evs (bared nodes)) (Closes ∷ xs)) ∙ e))
nodes_known (Char c ∷ nodes) (Element other ∷ others) xs ys e =
    absurd (elem_char other c (evs others ++ Closes ∷ ys) (evs (bared nodes) ++ Closes ∷ xs) (sym (append_assoc (events_of other) (evs others) (Closes ∷ ys)) ∙ sym e))
nodes_known (Char c ∷ nodes) (Char d ∷ others) xs ys e =
    let first = stands_same e in
    let more = nodes_known nodes others xs ys first.1 in
    (ap (λ (x : ℕ). Char x ∷ bared nodes) first.0 ∙ ap (λ (ns : List (Node Elem)). Char d ∷ ns) more.0, more.1)

abbrev elem_of : ℕ → List ℕ → List Attr → List (Node Elem) → Elem
elem_of place name attrs nodes = roll-Elem (record { place = place; name = name; attrs = attrs; nodes = nodes })

rolled_known : (place : ℕ) (name : List ℕ) (attrs : List Attr) (nodes : List (Node KnownElem)) → Known (elem_of place name attrs (bared nodes))
rolled_known place name attrs nodes other xs ys e =
    let o = out-Elem other in
    let inner = bared nodes in
    let f : Opens place name attrs ∷ ((evs inner ++ Closes ∷ []) ++ xs) ≡ Opens o.place o.name o.attrs ∷ ((evs o.nodes ++ Closes ∷ []) ++ ys) =
    ap (λ (t : List Event). t ++ xs) (sym (events-roll (record { place = place; name = name; attrs = attrs; nodes = inner })))
    ∙ (e ∙ ap (λ (t : List Event). t ++ ys) (events-begun other)) in
    let same = opens_same f in
    let held = nodes_known nodes o.nodes xs ys (sym (append_assoc (evs inner) (Closes ∷ []) xs) ∙ (same.3 ∙ append_assoc (evs o.nodes) (Closes ∷ []) ys)) in (
      ap (λ (x : ℕ). elem_of x name attrs inner) same.0
          ∙ (ap (λ (x : List ℕ). elem_of o.place x attrs inner) same.1
          ∙ (ap (λ (x : List Attr). elem_of o.place o.name x inner) same.2
          ∙ (ap (λ (x : List (Node Elem)). elem_of o.place o.name o.attrs x) held.0 ∙ roll-out-Elem other))),
      held.1,
    )

elem_step : (x : Elem-F Elem) (y : Elem-F KnownElem) → map-Elem KnownElem Elem bare y ≡ x → Known (roll-Elem x)
elem_step x y is = subst (λ (z : Elem-F Elem). Known (roll-Elem z)) is (rolled_known y.place y.name y.attrs y.nodes)

elem_known : (elem : Elem) → Known elem
elem_known = ind-Elem Known elem_step

pub tree_known : (one other : Elem) → events_of one ≡ events_of other → one ≡ other
tree_known one other e = (elem_known one other [] [] (ap (λ (t : List Event). t ++ []) e)).0
