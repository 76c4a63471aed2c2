-- The tags of a tree that is spelled, in the order of its text.
use Rattle.std.proofs.Common.{◌≡◌, ◌⊎◌, ◌<◌, ◌≤◌, ◌-◌, ◌==◌, ℕ, nat_lt, Bool, true, false, cond, List, [], ◌∷◌, ◌++◌, map, length, refl, sym, ap, ap₂, ◌∙◌, subst, inl, inr, chars, bytes_eq, append-nil, arith, Some, None}
use Rattle.std.specs.List.{flat_map, AllByRecursion as Each}
use Rattle.markup_nodes.specs.declared.words.Attr.{Attr}
use Rattle.markup_nodes.specs.declared.tree.Elem.{Elem, out-Elem}
use Rattle.markup_nodes.specs.declared.tree.Tree.{Tree}
use Rattle.markup_nodes.specs.Node.{Node, Element, Char}
use Rattle.markup_nodes.specs.Nodes.{elems}
use Rattle.markup_tags.specs.declared.tags.Tag.{Tag}
use Rattle.markup_tree.specs.declared.part.Part.{Part}
use Rattle.markup_tree.specs.declared.part.Part.TheVariants.{Inside}
use Rattle.markup_tree.specs.Pieces.{Saying, Silent, Begins, Ends, Holds, Declares}
use Rattle.markup_tree.specs.Documents.{Event, Opens, Closes, Stands, events_of, Spot, byte_count, place_of, part_within, behind_tag, behind_end, behind, without_mark, start_of, Follows, Leads, IsSpelling, Spells}
use Rattle.markup_tree.specs.Stacks.{held_events, begun}
use Rattle.markup_tree.proofs.EventLemmas.{events-begun}
use Rattle.tree_places.specs.Order.{tag_places, AreTagsInOrder}
use Rattle.tree_places.proofs.Within.{Pairs, each_push, each_weaker, pairs_push, all_pairs}
use Rattle.tree_places.proofs.Trees.{every_elem, tags_out}
use Rattle.tree_places.proofs.Lefts.{part_left, construct_less}

-- the places at which elements open
abbrev opened : List Event → List ℕ
opened [] = []
opened (Opens place name attrs ∷ events) = place ∷ opened events
opened (Closes ∷ events) = opened events
opened (Stands c ∷ events) = opened events

opened_append : (front back : List Event) → opened (front ++ back) ≡ opened front ++ opened back
opened_append [] back = refl
opened_append (Opens place name attrs ∷ front) back = ap (λ (more : List ℕ). place ∷ more) (opened_append front back)
opened_append (Closes ∷ front) back = opened_append front back
opened_append (Stands c ∷ front) back = opened_append front back

opened_stands : (cs : List ℕ) → opened (map Stands cs) ≡ []
opened_stands [] = refl
opened_stands (c ∷ cs) = opened_stands cs

-- those of a tree are its tags' places
abbrev IsOpened : Elem → Type 0
IsOpened elem = opened (events_of elem) ≡ tag_places elem

opened_nodes : (nodes : List (Node Elem)) → Each IsOpened (elems nodes) → opened (flat_map held_events nodes) ≡ flat_map tag_places (elems nodes)
opened_nodes [] known = refl
opened_nodes (Element elem ∷ nodes) known = opened_append (events_of elem) (flat_map held_events nodes) ∙ ap₂ (λ (here more : List ℕ). here ++ more) known.0 (opened_nodes nodes known.1)
opened_nodes (Char c ∷ nodes) known = opened_nodes nodes known

opened_elem : (elem : Elem) → Each IsOpened (elems (out-Elem elem).nodes) → IsOpened elem
opened_elem elem known =
    ap opened (events-begun elem) ∙ opened_append (begun elem) (Closes ∷ []) ∙ append-nil (opened (begun elem))
    ∙ ap (λ (more : List ℕ). (out-Elem elem).place ∷ more) (opened_nodes (out-Elem elem).nodes known) ∙ sym (tags_out elem)

opened_tree : (elem : Elem) → IsOpened elem
opened_tree = every_elem IsOpened opened_elem

-- a construct opens an element at its place, or none
abbrev Steps : ℕ → Spot → List ℕ → Spot → Type 0
Steps place spot rest next = (next.rest ≡ rest) × ((opened next.events ≡ opened spot.events) ⊎ (opened next.events ≡ opened spot.events ++ place ∷ []))

some_same : {A : Type 0} {x y : A} → Some x ≡ Some y → x ≡ y
some_same e = cc

module _ (place : ℕ) (rest : List ℕ) where
  steps_to : (spot one next : Spot) → Steps place spot rest one → Some one ≡ Some next → Steps place spot rest next
  steps_to spot one next h e = subst (Steps place spot rest) (some_same e) h

  abbrev with_events : Part → List (List ℕ) → List Event → Spot
  with_events part names events = record { part = part; rest = rest; open_names = names; events = events }

  opens : (spot : Spot) (part : Part) (names : List (List ℕ)) (name : List ℕ) (attrs : List Attr) (events : List Event) → opened events ≡ []
      → Steps place spot rest (with_events part names (spot.events ++ Opens place name attrs ∷ events))
  opens spot part names name attrs events none =
      (refl, inr (opened_append spot.events (Opens place name attrs ∷ events) ∙ ap (λ (more : List ℕ). opened spot.events ++ place ∷ more) none))

  opens_none : (spot : Spot) (part : Part) (names : List (List ℕ)) (events : List Event) → opened events ≡ [] → Steps place spot rest (with_events part names (spot.events ++ events))
  opens_none spot part names events none =
      (refl, inl (opened_append spot.events events ∙ ap (λ (more : List ℕ). opened spot.events ++ more) none ∙ append-nil (opened spot.events)))

  tag_steps : (spot next : Spot) (tag : Tag) → Some (behind_tag place spot tag rest) ≡ Some next → Steps place spot rest next
  tag_steps spot next tag = by_end tag.closed where
    closed : Spot
    closed = with_events (part_within spot.open_names) spot.open_names (spot.events ++ Opens place tag.name tag.attrs ∷ Closes ∷ [])

    holding : Spot
    holding = with_events Inside (tag.name ∷ spot.open_names) (spot.events ++ Opens place tag.name tag.attrs ∷ [])

    by_end : (b : Bool) → Some (cond b closed holding) ≡ Some next → Steps place spot rest next
    by_end true e = steps_to spot closed next (opens spot (part_within spot.open_names) spot.open_names tag.name tag.attrs (Closes ∷ []) refl) e
    by_end false e = steps_to spot holding next (opens spot Inside (tag.name ∷ spot.open_names) tag.name tag.attrs [] refl) e

  none_some : {A : Type 0} {x : A} → None ≡ Some x → ⊥
  none_some e = cc

  end_steps : (next : Spot) (part : Part) (before : List ℕ) (names : List (List ℕ)) (events : List Event) (name : List ℕ)
      → behind_end (record { part = part; rest = before; open_names = names; events = events }) name rest ≡ Some next
      → Steps place (record { part = part; rest = before; open_names = names; events = events }) rest next
  end_steps next part before [] events name e = absurd (none_some e)
  end_steps next part before (last ∷ names) events name e = by_name (bytes_eq last name) e where
    spot : Spot
    spot = record { part = part; rest = before; open_names = last ∷ names; events = events }

    ended : Spot
    ended = with_events (part_within names) names (events ++ Closes ∷ [])

    by_name : (b : Bool) → cond b (Some ended) None ≡ Some next → Steps place spot rest next
    by_name true e = steps_to spot ended next (opens_none spot (part_within names) names (Closes ∷ []) refl) e
    by_name false e = absurd (none_some e)

  steps : (spot next : Spot) (saying : Saying) → behind place spot saying rest ≡ Some next → Steps place spot rest next
  steps spot next Silent e = subst (Steps place spot rest) (some_same e) (refl, inl refl)
  steps spot next (Begins tag) e = by_room (nat_lt (length spot.open_names) 200) e where
    by_room : (b : Bool) → cond b (Some (behind_tag place spot tag rest)) None ≡ Some next → Steps place spot rest next
    by_room true e = tag_steps spot next tag e
    by_room false e = absurd (none_some e)
  steps spot next (Ends name) e = end_steps next spot.part spot.rest spot.open_names spot.events name e
  steps spot next (Holds cs) e = steps_to spot (with_events spot.part spot.open_names (spot.events ++ map Stands cs)) next (opens_none spot spot.part spot.open_names (map Stands cs) (opened_stands cs)) e
  steps spot next Declares e = absurd (none_some e)

-- what was opened stands before a spot, in order
record Kept (whole : List ℕ) (spot : Spot) : Type 0 where
  left : byte_count spot.rest ≤ byte_count whole
  before : Each (λ place. place < place_of whole spot.rest) (opened spot.events)
  order : Pairs (λ place other. place < other) (opened spot.events)

later : (n r s : ℕ) → s < r → r ≤ n → n - r < n - s
later n r s l m = omega (arith, l, m)

still : (n r s : ℕ) → s < r → r ≤ n → s ≤ n
still n r s l m = omega (arith, l, m)

below : (a b c : ℕ) → a < b → b < c → a < c
below a b c l m = omega (arith, l, m)

module _ (whole : List ℕ) where
  abbrev at : List ℕ → ℕ
  at rest = place_of whole rest

  kept_behind : (spot next : Spot) → byte_count next.rest < byte_count spot.rest → Kept whole spot
      → (opened next.events ≡ opened spot.events) ⊎ (opened next.events ≡ opened spot.events ++ at spot.rest ∷ []) → Kept whole next
  kept_behind spot next l kept = by_events where
    here : at spot.rest < at next.rest
    here = later (byte_count whole) (byte_count spot.rest) (byte_count next.rest) l kept.left

    all : Each (λ place. place < at next.rest) (opened spot.events)
    all = each_weaker (λ place. place < at spot.rest) (λ place. place < at next.rest) (λ place m. below place (at spot.rest) (at next.rest) m here) (opened spot.events) kept.before

    fewer : byte_count next.rest ≤ byte_count whole
    fewer = still (byte_count whole) (byte_count spot.rest) (byte_count next.rest) l kept.left

    by_events : (opened next.events ≡ opened spot.events) ⊎ (opened next.events ≡ opened spot.events ++ at spot.rest ∷ []) → Kept whole next
    by_events (inl e) = record {
      left = fewer;
      before = subst (Each (λ place. place < at next.rest)) (sym e) all;
      order = subst (Pairs (λ place other. place < other)) (sym e) kept.order;
    }
    by_events (inr e) = record {
      left = fewer;
      before = subst (Each (λ place. place < at next.rest)) (sym e) (each_push (λ place. place < at next.rest) (opened spot.events) (at spot.rest) all here);
      order = subst (Pairs (λ place other. place < other)) (sym e) (pairs_push (λ place other. place < other) (opened spot.events) (at spot.rest) kept.order kept.before);
    }

  kept_on : (spot next : Spot) → Follows whole spot next → Kept whole spot → Kept whole next
  kept_on spot next f kept =
      let step = steps (at spot.rest) f.1 spot next f.0 f.3 in
      kept_behind spot next (subst (λ (rest : List ℕ). byte_count rest < byte_count spot.rest) (sym step.0) (construct_less spot.part spot.rest f.0 f.1 f.2)) kept step.1

  kept_to : (spot : Spot) (between : List Spot) (last : Spot) → Leads whole spot between last → Kept whole spot → Kept whole last
  kept_to spot [] last l kept = subst (Kept whole) l kept
  kept_to spot (next ∷ more) last l kept = kept_to next more last l.1 (kept_on spot next l.0 kept)

mark_left : (whole : List ℕ) → byte_count (without_mark whole) ≤ byte_count whole
mark_left [] = part_left [] [] [] refl
mark_left (c ∷ cs) = by_mark (c == 0xfeff) where
  by_mark : (b : Bool) → byte_count (cond b cs (c ∷ cs)) ≤ byte_count (c ∷ cs)
  by_mark true = part_left (c ∷ cs) (c ∷ []) cs refl
  by_mark false = part_left (c ∷ cs) [] (c ∷ cs) refl

kept_start : (whole : List ℕ) → Kept whole (start_of whole)
kept_start whole = record { left = mark_left whole; before = tt; order = tt }

spelled : (whole : List ℕ) (root : Elem) → IsSpelling whole root → AreTagsInOrder root
spelled whole root s =
    all_pairs (λ place other. place < other) (tag_places root)
    (subst (Pairs (λ place other. place < other)) (ap opened s.events ∙ opened_tree root) (kept_to whole (start_of whole) s.reached.0 s.spot s.reached.1 (kept_start whole)).order)

pub spelled_in_order : (bytes : List ℕ) (tree : Tree) → Spells bytes tree → AreTagsInOrder tree.root
spelled_in_order bytes tree s = spelled (chars bytes) tree.root s.1
