-- What a construct makes of the open elements.
use Rattle.std.proofs.Common.{◌≡◌, ◌<◌, ◌≤◌, ◌+◌, ℕ, nat_lt, List, [], ◌∷◌, ◌++◌, Bool, true, false, cond, map, reverse, length, refl, ap, sym, ◌∙◌, append_assoc, bytes_eq, Option, Some, None, arith}
use Rattle.std.proofs.lemmas.List.{append-nil, map-append, reverse-append, length-map, length-reverse}
use Rattle.std.proofs.lemmas.Grind.{flat_map-append}
use Rattle.std.proofs.lemmas.Bool.Decides.{nat_tests}
use Rattle.std.specs.List.{flat_map}
use Rattle.markup_tags.specs.declared.tags.Tag.{Tag}
use Rattle.markup_nodes.specs.declared.words.Attr.{Attr}
use Rattle.markup_nodes.specs.declared.tree.Elem.{Elem, out-Elem, roll-Elem}
use Rattle.markup_nodes.specs.declared.tree.Elem.TheViews.{out-roll-Elem, roll-out-Elem}
use Rattle.markup_nodes.specs.declared.tree.Elem.TheOpen.{Elem-F}
use Rattle.markup_nodes.specs.Node.{Node, Element, Char}
use Rattle.markup_nodes.specs.Nodes.{char_nodes}
use Rattle.markup_tree.specs.declared.part.Part.TheVariants.{Inside}
use Rattle.markup_tree.specs.Documents.{Event, Opens, Closes, Stands, events_of, Spot, part_within, behind_tag, behind}
use Rattle.markup_tree.specs.Pieces.{Begins, Ends, Holds}
use Rattle.markup_tree.specs.Stacks.{held_events, begun, name_of, spot_in, spot_after, IsHeading}
use Rattle.markup_tree.proofs.EventLemmas.{evs, events-begun}

-- the events of nodes
evs_append : (xs ys : List (Node Elem)) → evs (xs ++ ys) ≡ evs xs ++ evs ys
evs_append = flat_map-append held_events

evs_chars : (cs : List ℕ) → evs (char_nodes cs) ≡ map Stands cs
evs_chars [] = refl
evs_chars (c ∷ cs) = ap (λ (t : List Event). Stands c ∷ t) (evs_chars cs)

evs_elem : (elem : Elem) → evs (Element elem ∷ []) ≡ events_of elem
evs_elem elem = append-nil (events_of elem)

-- an element that holds these nodes in place of its own
abbrev pub holding : Elem → List (Node Elem) → Elem
holding elem nodes = roll-Elem (record { place = (out-Elem elem).place; name = (out-Elem elem).name; attrs = (out-Elem elem).attrs; nodes = nodes })

abbrev with_nodes : Elem-F Elem → List (Node Elem) → Elem
with_nodes x nodes = roll-Elem (record { place = x.place; name = x.name; attrs = x.attrs; nodes = nodes })

pub holding_own : (elem : Elem) → holding elem (out-Elem elem).nodes ≡ elem
holding_own elem = roll-out-Elem elem

pub holding_again : (elem : Elem) (between nodes : List (Node Elem)) → holding (holding elem between) nodes ≡ holding elem nodes
holding_again elem between nodes =
    ap (λ (x : Elem-F Elem). with_nodes x nodes) (out-roll-Elem (record { place = (out-Elem elem).place; name = (out-Elem elem).name; attrs = (out-Elem elem).attrs; nodes = between }))

pub nodes_held : (elem : Elem) (nodes : List (Node Elem)) → (out-Elem (holding elem nodes)).nodes ≡ nodes
nodes_held elem nodes =
    ap (λ (x : Elem-F Elem). x.nodes) (out-roll-Elem (record { place = (out-Elem elem).place; name = (out-Elem elem).name; attrs = (out-Elem elem).attrs; nodes = nodes }))

abbrev begun_from : Elem-F Elem → List Event
begun_from x = Opens x.place x.name x.attrs ∷ evs x.nodes

begun_holding : (elem : Elem) (nodes more : List (Node Elem)) → nodes ≡ (out-Elem elem).nodes ++ more → begun (holding elem nodes) ≡ begun elem ++ evs more
begun_holding elem nodes more e =
    ap begun_from (out-roll-Elem (record { place = (out-Elem elem).place; name = (out-Elem elem).name; attrs = (out-Elem elem).attrs; nodes = nodes }))
    ∙ ap (λ (t : List Event). Opens (out-Elem elem).place (out-Elem elem).name (out-Elem elem).attrs ∷ t) (ap evs e ∙ evs_append (out-Elem elem).nodes more)

name_holding : (elem : Elem) (nodes : List (Node Elem)) → name_of (holding elem nodes) ≡ name_of elem
name_holding elem nodes =
    ap (λ (x : Elem-F Elem). x.name) (out-roll-Elem (record { place = (out-Elem elem).place; name = (out-Elem elem).name; attrs = (out-Elem elem).attrs; nodes = nodes }))

-- what a tag begins
pub begun_heading : (tag : Tag) (place : ℕ) (elem : Elem) → IsHeading tag place elem → begun elem ≡ Opens place tag.name tag.attrs ∷ []
begun_heading tag place elem h =
    ap (λ (x : ℕ). Opens x (out-Elem elem).name (out-Elem elem).attrs ∷ evs (out-Elem elem).nodes) h.place_is
    ∙ (ap (λ (x : List ℕ). Opens place x (out-Elem elem).attrs ∷ evs (out-Elem elem).nodes) h.name_is
    ∙ (ap (λ (x : List Attr). Opens place tag.name x ∷ evs (out-Elem elem).nodes) h.attrs_is
    ∙ ap (λ (x : List (Node Elem)). Opens place tag.name tag.attrs ∷ evs x) h.nodes_is))

-- one more open element
names_pushed : (below : List Elem) (top : Elem) → reverse (map name_of (below ++ top ∷ [])) ≡ name_of top ∷ reverse (map name_of below)
names_pushed below top = ap reverse (map-append name_of below (top ∷ [])) ∙ reverse-append (map name_of below) (name_of top ∷ [])

begun_pushed : (below : List Elem) (top : Elem) → flat_map begun (below ++ top ∷ []) ≡ flat_map begun below ++ begun top
begun_pushed below top = flat_map-append begun below (top ∷ []) ∙ ap (λ (t : List Event). flat_map begun below ++ t) (append-nil (begun top))

-- a spot in the root, by its parts
abbrev spot_of : List ℕ → List (List ℕ) → List Event → Spot
spot_of rest names events = record { part = Inside; rest = rest; open_names = names; events = events }

module _ (place : ℕ) (below : List Elem) (top : Elem) (rest after : List ℕ) where
  -- characters
  pub behind_held : (nodes : List (Node Elem)) (cs : List ℕ) → nodes ≡ (out-Elem top).nodes ++ char_nodes cs
      → behind place (spot_in below top rest) (Holds cs) after ≡ Some (spot_in below (holding top nodes) after)
  behind_held nodes cs e =
      ap (λ (t : List Event). Some (spot_of after (name_of top ∷ reverse (map name_of below)) t))
      (append_assoc (flat_map begun below) (begun top) (map Stands cs)
      ∙ ap (λ (t : List Event). flat_map begun below ++ t) (ap (λ (t : List Event). begun top ++ t) (sym (evs_chars cs)) ∙ sym (begun_holding top nodes (char_nodes cs) e)))
      ∙ ap (λ (name : List ℕ). Some (spot_of after (name ∷ reverse (map name_of below)) (flat_map begun below ++ begun (holding top nodes)))) (sym (name_holding top nodes))

  -- how many elements are open
  open_count : length (name_of top ∷ reverse (map name_of below)) ≡ length below + 1
  open_count = omega (arith, length-reverse (map name_of below), length-map below name_of)

  few : length below + 1 < 200 → nat_lt (length (name_of top ∷ reverse (map name_of below))) 200 ≡ true
  few h = let e = open_count in grind (arith, nat_tests)

  many : 200 ≤ length below + 1 → nat_lt (length (name_of top ∷ reverse (map name_of below))) 200 ≡ false
  many h = let e = open_count in grind (arith, nat_tests)

  abbrev if_few : Bool → Tag → Option Spot
  if_few enough tag = cond enough (Some (behind_tag place (spot_in below top rest) tag after)) None

  -- a tag that begins the 201st element
  pub behind_deep : (tag : Tag) → 200 ≤ length below + 1 → behind place (spot_in below top rest) (Begins tag) after ≡ None
  behind_deep tag h = ap (λ (b : Bool). if_few b tag) (many h)

  -- a tag that begins an element
  pub behind_few : (tag : Tag) → length below + 1 < 200 → behind place (spot_in below top rest) (Begins tag) after ≡ Some (behind_tag place (spot_in below top rest) tag after)
  behind_few tag h = ap (λ (b : Bool). if_few b tag) (few h)

  abbrev if_named : Bool → List (List ℕ) → List Event → Option Spot
  if_named named names events = cond named (Some (record { part = part_within names; rest = after; open_names = names; events = events })) None

  -- an end tag of another element
  pub behind_other : (name : List ℕ) → bytes_eq (name_of top) name ≡ false → behind place (spot_in below top rest) (Ends name) after ≡ None
  behind_other name apart = ap (λ (b : Bool). if_named b (reverse (map name_of below)) ((flat_map begun below ++ begun top) ++ Closes ∷ [])) apart

  -- the end tag of the root
  pub behind_root : (name : List ℕ) → bytes_eq (name_of top) name ≡ true → below ≡ [] → behind place (spot_in below top rest) (Ends name) after ≡ Some (spot_after top after)
  behind_root name same alone =
      ap (λ (b : Bool). if_named b (reverse (map name_of below)) ((flat_map begun below ++ begun top) ++ Closes ∷ [])) same
      ∙ (ap (λ (elems : List Elem). if_named true (reverse (map name_of elems)) ((flat_map begun elems ++ begun top) ++ Closes ∷ [])) alone
      ∙ ap (λ (t : List Event). if_named true [] t) (sym (events-begun top)))

  -- the end tag of another element
  pub behind_parent : (name : List ℕ) (lower : List Elem) (parent : Elem) (nodes : List (Node Elem)) → bytes_eq (name_of top) name ≡ true → below ≡ lower ++ parent ∷ []
      → nodes ≡ (out-Elem parent).nodes ++ (Element top ∷ []) → behind place (spot_in below top rest) (Ends name) after ≡ Some (spot_in lower (holding parent nodes) after)
  behind_parent name lower parent nodes same pushed e =
      ap (λ (b : Bool). if_named b (reverse (map name_of below)) ((flat_map begun below ++ begun top) ++ Closes ∷ [])) same
      ∙ (ap (λ (elems : List Elem). if_named true (reverse (map name_of elems)) ((flat_map begun elems ++ begun top) ++ Closes ∷ [])) pushed
      ∙ (ap (λ (names : List (List ℕ)). if_named true names ((flat_map begun (lower ++ parent ∷ []) ++ begun top) ++ Closes ∷ [])) (names_pushed lower parent)
      ∙ (ap (λ (t : List Event). if_named true (name_of parent ∷ reverse (map name_of lower)) t) events
      ∙ ap (λ (name : List ℕ). if_named true (name ∷ reverse (map name_of lower)) (flat_map begun lower ++ begun (holding parent nodes))) (sym (name_holding parent nodes)))))
    where
      events : (flat_map begun (lower ++ parent ∷ []) ++ begun top) ++ Closes ∷ [] ≡ flat_map begun lower ++ begun (holding parent nodes)
      events =
          append_assoc (flat_map begun (lower ++ parent ∷ [])) (begun top) (Closes ∷ [])
          ∙ (ap (λ (t : List Event). flat_map begun (lower ++ parent ∷ []) ++ t) (sym (evs_elem top ∙ events-begun top))
          ∙ (ap (λ (t : List Event). t ++ evs ((Element top ∷ []))) (begun_pushed lower parent)
          ∙ (append_assoc (flat_map begun lower) (begun parent) (evs ((Element top ∷ [])))
          ∙ ap (λ (t : List Event). flat_map begun lower ++ t) (sym (begun_holding parent nodes ((Element top ∷ [])) e)))))
