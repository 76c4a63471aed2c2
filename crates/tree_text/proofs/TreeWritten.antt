-- A tree that is written is read back.
use Rattle.std.proofs.Common.{◌≡◌, ◌&&◌, ◌≤◌, ◌<◌, ◌+◌, ℕ, nat_lt, List, [], ◌∷◌, ◌++◌, Bool, true, false, cond, length, chars, refl, ap, sym, ◌∙◌, subst, inl, inr, append_assoc, IsUtf8, Some, None, arith}
use Rattle.std.proofs.lemmas.Bool.Decides.{nat_tests}
use Rattle.std.specs.List.{list_all}
use Rattle.markup_nodes.specs.Node.{Node}
use Rattle.markup_nodes.specs.declared.words.Attr.{Attr}
use Rattle.markup_nodes.specs.declared.tree.Elem.{Elem, roll-Elem}
use Rattle.markup_nodes.specs.declared.tree.Elem.TheOpen.{Elem-F}
use Rattle.markup_nodes.specs.declared.tree.Elem.TheFolds.{fold-roll-Elem, map-Elem, ind-Elem}
use Rattle.markup_tree.specs.declared.part.Part.{Part}
use Rattle.markup_tree.specs.declared.part.Part.TheVariants.{Start, Before, Inside, After}
use Rattle.markup_tree.specs.Pieces.{Silent, Begins, Ends}
use Rattle.markup_tree.specs.Documents.{Event, Opens, Closes, events_of, Spot, Reaches, without_mark, place_of, part_within, IsSpelling}
use Rattle.markup_tree.proofs.EventLemmas.{evs, events-roll}
use Rattle.tree_text.specs.Writing.{tag_text, end_text, rest_text, elem_text, written, declaration, document_text, is_name, is_writable_attr, is_writable_node, is_writable_elem, is_writable, greatest, elem_height, height, unplaced_elem, unplaced, SpellsAlike}
use Rattle.tree_text.proofs.ConstructsWritten.{both, bytes_same, CanBegin, tag_is, open_stands, closed_stands, end_stands, feed_stands, declaration_stands}
use Rattle.tree_text.proofs.NodesWritten.{spot, on_follow, each_node, nodes_text, IsReadBack, Readable, ReadableElem, bare, bared, nodes_read}

abbrev elem_of : ℕ → List ℕ → List Attr → List (Node Elem) → Elem
elem_of place name attrs nodes = roll-Elem (record { place = place; name = name; attrs = attrs; nodes = nodes })

-- what is said of an element comes to what is said of its parts
text_of : (place : ℕ) (name : List ℕ) (attrs : List Attr) (nodes : List (Node Elem)) → written (elem_of place name attrs nodes) ≡ tag_text name attrs ++ rest_text name (each_node written nodes)
text_of place name attrs nodes = fold-roll-Elem (List ℕ) elem_text (record { place = place; name = name; attrs = attrs; nodes = nodes })

writable_of : (place : ℕ) (name : List ℕ) (attrs : List Attr) (nodes : List (Node Elem))
    → is_writable (elem_of place name attrs nodes) ≡ is_name name && (list_all is_writable_attr attrs && list_all is_writable_node (each_node is_writable nodes))
writable_of place name attrs nodes = fold-roll-Elem Bool is_writable_elem (record { place = place; name = name; attrs = attrs; nodes = nodes })

height_of : (place : ℕ) (name : List ℕ) (attrs : List Attr) (nodes : List (Node Elem)) → height (elem_of place name attrs nodes) ≡ greatest (each_node height nodes) + 1
height_of place name attrs nodes = fold-roll-Elem ℕ elem_height (record { place = place; name = name; attrs = attrs; nodes = nodes })

unplaced_of : (place : ℕ) (name : List ℕ) (attrs : List Attr) (nodes : List (Node Elem)) → unplaced (elem_of place name attrs nodes) ≡ elem_of 0 name attrs (each_node unplaced nodes)
unplaced_of place name attrs nodes = fold-roll-Elem Elem unplaced_elem (record { place = place; name = name; attrs = attrs; nodes = nodes })

alike_of : (p q : ℕ) (name : List ℕ) (attrs : List Attr) (nodes others : List (Node Elem)) → each_node unplaced others ≡ each_node unplaced nodes → unplaced (elem_of p name attrs others) ≡ unplaced (elem_of q name attrs nodes)
alike_of p q name attrs nodes others e = unplaced_of p name attrs others ∙ (ap (elem_of 0 name attrs) e ∙ sym (unplaced_of q name attrs nodes))

events_of_parts : (place : ℕ) (name : List ℕ) (attrs : List Attr) (nodes : List (Node Elem)) → events_of (elem_of place name attrs nodes) ≡ Opens place name attrs ∷ (evs nodes ++ Closes ∷ [])
events_of_parts place name attrs nodes = events-roll (record { place = place; name = name; attrs = attrs; nodes = nodes })

few : (n h g : ℕ) → h ≡ g + 1 → n + h ≤ 200 → nat_lt n 200 ≡ true
few n h g e l = let lt : n < 200 = omega (arith, e, l) in grind (arith, nat_tests)

deeper : (n h g : ℕ) → h ≡ g + 1 → n + h ≤ 200 → n + 1 + g ≤ 200
deeper n h g e l = omega (arith, e, l)

-- one element, with what it holds
module _ (place : ℕ) (name : List ℕ) (attrs : List Attr) (nodes : List (Node Elem)) (whole : List ℕ) (part : Part) (names : List (List ℕ)) (events : List Event) (after : List ℕ)
    (can : CanBegin part) (named : is_name name ≡ true) (attrs_ok : list_all is_writable_attr attrs ≡ true) (room : nat_lt (length names) 200 ≡ true) where
  abbrev opening : ℕ → List Event
  opening at = events ++ Opens at name attrs ∷ []

  if_room : (next : Spot) → cond (nat_lt (length names) 200) (Some next) None ≡ Some next
  if_room next = ap (λ (b : Bool). cond b (Some next) None) room

  -- it holds nothing
  closed_read : Reaches whole (spot part (tag_text name attrs ++ 0x2f ∷ 0x3e ∷ after) names events) → IsReadBack whole (elem_of place name attrs []) names events after
  closed_read w =
      let text = tag_text name attrs ++ 0x2f ∷ 0x3e ∷ after in
      let at = place_of whole text in
      let next = spot (part_within names) after names (events ++ Opens at name attrs ∷ Closes ∷ []) in
      let reached : Reaches whole next = on_follow whole (spot part text names events) (Begins (tag_is name attrs true)) after (closed_stands part name attrs after can named attrs_ok) w next (if_room next) in
      record {
        other = elem_of at name attrs [];
        alike = alike_of at place name attrs [] [] refl;
        reached = subst (λ (t : List Event). Reaches whole (spot (part_within names) after names (events ++ t))) (sym (events_of_parts at name attrs [])) reached;
      }

  -- its tag
  opened : (text : List ℕ) → Reaches whole (spot part (tag_text name attrs ++ 0x3e ∷ text) names events) → (at : ℕ) × Reaches whole (spot Inside text (name ∷ names) (opening at))
  opened text w =
      let at = place_of whole (tag_text name attrs ++ 0x3e ∷ text) in
      let next = spot Inside text (name ∷ names) (opening at) in
      (at, on_follow whole (spot part (tag_text name attrs ++ 0x3e ∷ text) names events) (Begins (tag_is name attrs false)) text (open_stands part name attrs text can named attrs_ok) w next (if_room next))

  -- its end
  ended : (at : ℕ) (others : List (Node Elem)) → Reaches whole (spot Inside (end_text name ++ after) (name ∷ names) (opening at ++ evs others))
      → Reaches whole (spot (part_within names) after names (events ++ events_of (elem_of at name attrs others)))
  ended at others w =
      let next = spot (part_within names) after names ((opening at ++ evs others) ++ Closes ∷ []) in
      let reached : Reaches whole next = on_follow whole (spot Inside (end_text name ++ after) (name ∷ names) (opening at ++ evs others)) (Ends name) after (end_stands name after named) w next
      (ap (λ (b : Bool). cond b (Some next) None) (bytes_same name)) in
      let same : (opening at ++ evs others) ++ Closes ∷ [] ≡ events ++ (Opens at name attrs ∷ (evs others ++ Closes ∷ [])) =
      append_assoc (opening at) (evs others) (Closes ∷ []) ∙ append_assoc events (Opens at name attrs ∷ []) (evs others ++ Closes ∷ []) in
      subst (λ (t : List Event). Reaches whole (spot (part_within names) after names t)) (same ∙ ap (λ (t : List Event). events ++ t) (sym (events_of_parts at name attrs others))) reached

  open_text : (inner : List ℕ) → (tag_text name attrs ++ 0x3e ∷ (inner ++ end_text name)) ++ after ≡ tag_text name attrs ++ 0x3e ∷ (inner ++ (end_text name ++ after))
  open_text inner = append_assoc (tag_text name attrs) (0x3e ∷ (inner ++ end_text name)) after ∙ ap (λ (t : List ℕ). tag_text name attrs ++ 0x3e ∷ t) (append_assoc inner (end_text name) after)

rolled_read : (place : ℕ) (name : List ℕ) (attrs : List Attr) (nodes : List (Node ReadableElem)) → Readable (elem_of place name attrs (bared nodes))
rolled_read place name attrs nodes whole part names events after can ok high w =
    let inner = bared nodes in
    let parts = both (is_name name) (list_all is_writable_attr attrs && list_all is_writable_node (each_node is_writable inner)) (sym (writable_of place name attrs inner) ∙ ok) in
    let held = both (list_all is_writable_attr attrs) (list_all is_writable_node (each_node is_writable inner)) parts.1 in
    let room = few (length names) (height (elem_of place name attrs inner)) (greatest (each_node height inner)) (height_of place name attrs inner) high in
    let deep = deeper (length names) (height (elem_of place name attrs inner)) (greatest (each_node height inner)) (height_of place name attrs inner) high in
    let w' : Reaches whole (spot part ((tag_text name attrs ++ rest_text name (each_node written inner)) ++ after) names events) =
    subst (λ (t : List ℕ). Reaches whole (spot part (t ++ after) names events)) (text_of place name attrs inner) w in
    go nodes parts.0 held.0 held.1 room deep w'
  where
    go : (nodes : List (Node ReadableElem)) → is_name name ≡ true → list_all is_writable_attr attrs ≡ true → list_all is_writable_node (each_node is_writable (bared nodes)) ≡ true → nat_lt (length names) 200 ≡ true
        → length names + 1 + greatest (each_node height (bared nodes)) ≤ 200 → Reaches whole (spot part ((tag_text name attrs ++ rest_text name (each_node written (bared nodes))) ++ after) names events)
        → IsReadBack whole (elem_of place name attrs (bared nodes)) names events after
    go [] named attrs_ok nodes_ok room deep w =
        closed_read place name attrs [] whole part names events after can named attrs_ok room
        (subst (λ (t : List ℕ). Reaches whole (spot part t names events)) (append_assoc (tag_text name attrs) (0x2f ∷ 0x3e ∷ []) after) w)
    go (node ∷ nodes) named attrs_ok nodes_ok room deep w =
        let inner = bared (node ∷ nodes) in
        let first = opened place name attrs inner whole part names events after can named attrs_ok room (nodes_text inner ++ (end_text name ++ after))
        (subst (λ (t : List ℕ). Reaches whole (spot part t names events)) (open_text place name attrs inner whole part names events after can named attrs_ok room (nodes_text inner)) w) in
        let found = nodes_read (node ∷ nodes) whole name names (events ++ Opens first.0 name attrs ∷ []) (0x2f ∷ ((name ++ 0x3e ∷ []) ++ after)) nodes_ok deep first.1 in
        record {
          other = elem_of first.0 name attrs found.others;
          alike = alike_of first.0 place name attrs inner found.others found.alike;
          reached = ended place name attrs inner whole part names events after can named attrs_ok room first.0 found.others found.reached;
        }

elem_step : (x : Elem-F Elem) (y : Elem-F ReadableElem) → map-Elem ReadableElem Elem bare y ≡ x → Readable (roll-Elem x)
elem_step x y is = subst (λ (z : Elem-F Elem). Readable (roll-Elem z)) is (rolled_read y.place y.name y.attrs y.nodes)

elem_read : (elem : Elem) → Readable elem
elem_read = ind-Elem Readable elem_step

-- a document
marked : (rest : List ℕ) → without_mark (declaration ++ rest) ≡ declaration ++ rest
unfolding declaration
marked rest = refl

started : (rest : List ℕ) → Reaches (declaration ++ rest) (spot Start (declaration ++ rest) [] [])
started rest = ([], ap (λ (t : List ℕ). spot Start t [] []) (marked rest))

document_read : (root : Elem) → is_writable root ≡ true → height root ≤ 200 → (other : Elem) × IsSpelling (document_text root) other × (unplaced other ≡ unplaced root)
document_read root ok high =
    let whole = document_text root in
    let body = 0xa ∷ (written root ++ 0xa ∷ []) in
    let one : Reaches whole (spot Before body [] []) = on_follow whole (spot Start whole [] []) Silent body (declaration_stands body) (started body) (spot Before body [] []) refl in
    let two : Reaches whole (spot Before (written root ++ 0xa ∷ []) [] []) =
    on_follow whole (spot Before body [] []) Silent (written root ++ 0xa ∷ []) (feed_stands Before (inl refl) (written root ++ 0xa ∷ [])) one (spot Before (written root ++ 0xa ∷ []) [] []) refl in
    let found = elem_read root whole Before [] [] (0xa ∷ []) tt ok (omega (arith, high)) two in
    let end = spot After [] [] (events_of found.other) in
    let three : Reaches whole end = on_follow whole (spot After (0xa ∷ []) [] (events_of found.other)) Silent [] (feed_stands After (inr refl) []) found.reached end refl in
    (found.other, record { spot = end; reached = three; part = refl; ended = refl; events = refl }, found.alike)

pub read_back : (bytes : List ℕ) (root : Elem) → IsUtf8 bytes → chars bytes ≡ document_text root → is_writable root ≡ true → height root ≤ 200 → SpellsAlike bytes root
read_back bytes root utf8 is ok high =
    let found = document_read root ok high in
    (record { root = found.0 }, (utf8, subst (λ (t : List ℕ). IsSpelling t found.0) (sym is) found.1), found.2)
