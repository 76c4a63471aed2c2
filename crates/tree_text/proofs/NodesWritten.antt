-- What an element holds, as it is written.
use Rattle.std.proofs.Common.{◌≡◌, ◌==◌, ◌≤◌, ◌+◌, ℕ, suc, max, List, [], ◌∷◌, ◌++◌, Bool, true, false, length, refl, ap, sym, ◌∙◌, subst, inl, inr, append_assoc, ne_eqb, Some, arith}
use Rattle.std.proofs.lemmas.Bool.Decides.{eqb_tells}
use Rattle.std.proofs.lemmas.List.{append-nil}
use Rattle.std.specs.List.{flat_map, list_all}
use mathlib.Core.Former.{this}
use Rattle.markup_nodes.specs.formers.nodes.Nodes.{the_former}
use Rattle.markup_nodes.specs.Node.{Node, Element, Char}
use Rattle.markup_nodes.specs.declared.tree.Elem.{Elem, out-Elem}
use Rattle.markup_nodes.specs.declared.tree.Elem.TheFolds.{fold_out-Elem}
use Rattle.markup_parts.specs.Constructs.{EndsBefore}
use Rattle.markup_tree.specs.declared.part.Part.{Part}
use Rattle.markup_tree.specs.declared.part.Part.TheVariants.{Inside}
use Rattle.markup_tree.specs.Escapes.{text_escape}
use Rattle.markup_tree.specs.Pieces.{Saying, Holds, IsConstruct}
use Rattle.markup_tree.specs.Documents.{Event, Stands, events_of, Spot, Reaches, start_of, place_of, behind, part_within}
use Rattle.markup_tree.proofs.EventLemmas.{evs}
use Rattle.markup_tree.proofs.ReadBackLemmas.{text_view, IsPlainText, BracketEnds}
use Rattle.markup_tree.proofs.WayLemmas.{leads_more}
use Rattle.tree_text.specs.Writing.{node_text, tag_text, rest_text, elem_text, written, is_writable_node, is_writable, greatest, height, unplaced}
use Rattle.tree_text.proofs.ConstructsWritten.{both, CanBegin, char_stands}

abbrev pub spot : Part → List ℕ → List (List ℕ) → List Event → Spot
spot part rest names events = record { part = part; rest = rest; open_names = names; events = events }

-- a construct leads on
pub on_follow : (whole : List ℕ) (here : Spot) (saying : Saying) (rest : List ℕ) → IsConstruct here.part here.rest (Some saying) rest → Reaches whole here
    → (next : Spot) → behind (place_of whole here.rest) here saying rest ≡ Some next → Reaches whole next
on_follow whole here saying rest stands w next on = (w.0 ++ next ∷ [], leads_more whole (start_of whole) w.0 here next w.1 (saying, rest, stands, on))

-- the same of each node
abbrev pub each_node : {A : Type 0} → (Elem → A) → List (Node Elem) → List (Node A)
each_node {A} f = (the_former this).map Elem A f

abbrev pub nodes_text : List (Node Elem) → List ℕ
nodes_text nodes = flat_map node_text (each_node written nodes)

pub written_out : (elem : Elem) → written elem ≡ tag_text (out-Elem elem).name (out-Elem elem).attrs ++ rest_text (out-Elem elem).name (each_node written (out-Elem elem).nodes)
written_out elem = fold_out-Elem (List ℕ) elem_text elem

-- what stands in front of a `<` has no `]]>`
module _ (more : List ℕ) where
  abbrev text_from : List (Node Elem) → List ℕ
  text_from nodes = nodes_text nodes ++ 0x3c ∷ more

  elem_begins : (test : ℕ → Bool) (elem : Elem) (rest : List ℕ) → test 0x3c ≡ false → EndsBefore test ((written elem ++ rest) ++ 0x3c ∷ more)
  elem_begins test elem rest less = subst (λ (t : List ℕ). EndsBefore test ((t ++ rest) ++ 0x3c ∷ more)) (sym (written_out elem)) less

  char_begins : (test : ℕ → Bool) (c : ℕ) (rest : List ℕ) → test 0x26 ≡ false → (IsPlainText c → test c ≡ false) → EndsBefore test ((text_escape c ++ rest) ++ 0x3c ∷ more)
  char_begins test c rest ampersand first = elim (text_view c) [
    | inl is ↦ subst (λ (x : ℕ). EndsBefore test ((text_escape x ++ rest) ++ 0x3c ∷ more)) (sym is) ampersand
    | inr (inl is) ↦ subst (λ (x : ℕ). EndsBefore test ((text_escape x ++ rest) ++ 0x3c ∷ more)) (sym is) ampersand
    | inr (inr (inl is)) ↦ subst (λ (x : ℕ). EndsBefore test ((text_escape x ++ rest) ++ 0x3c ∷ more)) (sym is) ampersand
    | inr (inr (inr plain)) ↦ subst (λ (t : List ℕ). EndsBefore test ((t ++ rest) ++ 0x3c ∷ more)) (sym plain.3) (first plain)
  ]

  no_greater : (nodes : List (Node Elem)) → EndsBefore (λ c. c == 0x3e) (text_from nodes)
  no_greater [] = refl
  no_greater (Element elem ∷ nodes) = elem_begins (λ c. c == 0x3e) elem (nodes_text nodes) refl
  no_greater (Char d ∷ nodes) = char_begins (λ c. c == 0x3e) d (nodes_text nodes) refl (λ plain. ne_eqb d 0x3e plain.2)

  bracket_ends : (nodes : List (Node Elem)) → BracketEnds (text_from nodes)
  bracket_ends [] = inl refl
  bracket_ends (Element elem ∷ nodes) = inl (elem_begins (λ c. c == 0x5d) elem (nodes_text nodes) refl)
  bracket_ends (Char d ∷ nodes) = elim (eqb_tells d 0x5d) [
    | inl is ↦ inr (text_from nodes, ap (λ (x : ℕ). (text_escape x ++ nodes_text nodes) ++ 0x3c ∷ more) is.1, no_greater nodes)
    | inr apart ↦ inl (char_begins (λ c. c == 0x5d) d (nodes_text nodes) refl (λ plain. apart.0))
  ]

-- what reading an element comes to: one that is alike
pub record IsReadBack (whole : List ℕ) (elem : Elem) (names : List (List ℕ)) (events : List Event) (after : List ℕ) : Type 0 where
  pub other : Elem
  pub alike : unplaced other ≡ unplaced elem
  pub reached : Reaches whole (spot (part_within names) after names (events ++ events_of other))

abbrev pub Readable : Elem → Type 0
Readable elem =
    (whole : List ℕ) (part : Part) (names : List (List ℕ)) (events : List Event) (after : List ℕ) → CanBegin part → is_writable elem ≡ true → length names + height elem ≤ 200
    → Reaches whole (spot part (written elem ++ after) names events) → IsReadBack whole elem names events after

-- an element with its proof
abbrev pub ReadableElem : Type 0
ReadableElem = (elem : Elem) × Readable elem

abbrev pub bare : ReadableElem → Elem
bare readable = readable.0

abbrev pub bared : List (Node ReadableElem) → List (Node Elem)
bared = (the_former this).map ReadableElem Elem bare

-- what reading nodes comes to
pub record AreReadBack (whole : List ℕ) (nodes : List (Node Elem)) (name : List ℕ) (names : List (List ℕ)) (events : List Event) (after : List ℕ) : Type 0 where
  pub others : List (Node Elem)
  pub alike : each_node unplaced others ≡ each_node unplaced nodes
  pub reached : Reaches whole (spot Inside after (name ∷ names) (events ++ evs others))

first_most : (n m : ℕ) (a b : ℕ) → n + 1 + max a b ≤ m → n + 1 + a ≤ m
first_most n m a b h = omega (arith, h)

later_most : (n m : ℕ) (a b : ℕ) → n + 1 + max a b ≤ m → n + 1 + b ≤ m
later_most n m a b h = omega (arith, h)

one_more_name : (n a m : ℕ) → n + 1 + a ≤ m → suc n + a ≤ m
one_more_name n a m h = omega (arith, h)

pub nodes_read : (nodes : List (Node ReadableElem)) (whole name : List ℕ) (names : List (List ℕ)) (events : List Event) (more : List ℕ) → list_all is_writable_node (each_node is_writable (bared nodes)) ≡ true
    → length names + 1 + greatest (each_node height (bared nodes)) ≤ 200 → Reaches whole (spot Inside (text_from more (bared nodes)) (name ∷ names) events) → AreReadBack whole (bared nodes) name names events (0x3c ∷ more)
nodes_read [] whole name names events more e h w = record {
  others = [];
  alike = refl;
  reached = subst (λ (t : List Event). Reaches whole (spot Inside (0x3c ∷ more) (name ∷ names) t)) (sym (append-nil events)) w;
}
nodes_read (Char c ∷ nodes) whole name names events more e h w =
    let ok = both (is_writable_node (Char c)) (list_all is_writable_node (each_node is_writable (bared nodes))) e in
    let rest = text_from more (bared nodes) in
    let here = spot Inside (text_escape c ++ rest) (name ∷ names) events in
    let w' : Reaches whole here = subst (λ (t : List ℕ). Reaches whole (spot Inside t (name ∷ names) events)) (append_assoc (text_escape c) (nodes_text (bared nodes)) (0x3c ∷ more)) w in
    let next = spot Inside rest (name ∷ names) (events ++ Stands c ∷ []) in
    let step : Reaches whole next = on_follow whole here (Holds (c ∷ [])) rest (char_stands c rest ok.0 (bracket_ends more (bared nodes))) w' next refl in
    let found = nodes_read nodes whole name names (events ++ Stands c ∷ []) more ok.1 (later_most (length names) 200 0 (greatest (each_node height (bared nodes))) h) step in
    record {
      others = Char c ∷ found.others;
      alike = ap (λ (ns : List (Node Elem)). Char c ∷ ns) found.alike;
      reached = subst (λ (t : List Event). Reaches whole (spot Inside (0x3c ∷ more) (name ∷ names) t)) (append_assoc events (Stands c ∷ []) (evs found.others)) found.reached;
    }
nodes_read (Element elem ∷ nodes) whole name names events more e h w =
    let ok = both (is_writable elem.0) (list_all is_writable_node (each_node is_writable (bared nodes))) e in
    let rest = text_from more (bared nodes) in
    let w' : Reaches whole (spot Inside (written elem.0 ++ rest) (name ∷ names) events) =
    subst (λ (t : List ℕ). Reaches whole (spot Inside t (name ∷ names) events)) (append_assoc (written elem.0) (nodes_text (bared nodes)) (0x3c ∷ more)) w in
    let high = one_more_name (length names) (height elem.0) 200 (first_most (length names) 200 (height elem.0) (greatest (each_node height (bared nodes))) h) in
    let first = elem.1 whole Inside (name ∷ names) events rest tt ok.0 high w' in
    let found = nodes_read nodes whole name names (events ++ events_of first.other) more ok.1 (later_most (length names) 200 (height elem.0) (greatest (each_node height (bared nodes))) h) first.reached in
    record {
      others = Element first.other ∷ found.others;
      alike = ap (λ (x : Elem). Element x ∷ each_node unplaced found.others) first.alike ∙ ap (λ (ns : List (Node Elem)). Element (unplaced elem.0) ∷ ns) found.alike;
      reached = subst (λ (t : List Event). Reaches whole (spot Inside (0x3c ∷ more) (name ∷ names) t)) (append_assoc events (events_of first.other) (evs found.others)) found.reached;
    }
