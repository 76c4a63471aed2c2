-- What is met of the content of a paragraph: spans and spaces are of no account.
use Rattle.std.proofs.Common.{◌≡◌, ℕ, ◌+◌, ◌==◌, ◌&&◌, not, zero, suc, Bool, true, false, cond, List, [], ◌∷◌, ◌++◌, map, codes, decimal, refl, sym, ap, ap₂, ◌∙◌, subst, append-nil, bytes_eq, Option, Some, None}
use Rattle.std.specs.Cmp.Lexicographic.{pointwise}
use Rattle.std.specs.List.{flat_map, AllByRecursion as Each}
use Rattle.markup_nodes.specs.declared.words.Attr.{Attr}
use Rattle.markup_nodes.specs.declared.tree.Elem.{Elem}
use Rattle.markup_nodes.specs.Node.{Node, Element, Char}
use Rattle.doc_model.specs.declared.paragraph.Item.{Item, out-Item}
use Rattle.doc_model.specs.declared.paragraph.Note.{Note as DocNote}
use Rattle.doc_model.specs.declared.paragraph.Par.{Par}
use Rattle.doc_model.specs.declared.paragraph.What.{What}
use Rattle.doc_model.specs.declared.paragraph.What.TheOpen.{What-F}
use Rattle.doc_model.specs.Parts.{what_of}
use Rattle.load_model.specs.declared.names.Tag.TheVariants as tag
use Rattle.load_model.specs.declared.element.Element.{Element as Read, out-Element}
use Rattle.load_model.specs.Met.{Met, Where, gives_of}
use Rattle.spelling_model.specs.Spelling.{Piece, As, Spaces, Placed, behind_space, is_space, pieces_of, placed, stands_for_itself}
use Rattle.written_model.specs.Content.{Run, Spanned, content, in_front_of, in_spans, is_same_span, of_run, outermost_of, runs_of, span_depth, span_element, spaces_element, spanned, what_node, within}
use Rattle.written_model.specs.Elements.{attribute}
use Rattle.back_names.specs.Named.{named, named_attribute, placeless}
use Rattle.back_names.proofs.Parts.{elem_of}
use Rattle.back_items.proofs.Keys.{spaces_tag}
use Rattle.back_met.proofs.Keys.{span_tag}
use Rattle.back_met.proofs.Nodes.{AreNodesOf, IsNodeOf, both_of, content_at, content_met, is_of, nodes_met, parted}
use Rattle.back_met.specs.Things.{AreMet, Thing, things_in, things_of}
use Rattle.back_met.proofs.Parts.{met_both, met_is}

-- nodes that give the same as others that are written as these
record IsFlat (here : Where) (ts : List (Node Read)) (ws : List (Node Elem)) : Type 0 where
  flat : List (Node Read)
  flat_of : AreNodesOf flat ws
  same : content_met here ts ≡ content_met here flat

abbrev nodes_in : List Spanned → List (Node Elem)
nodes_in nodes = map (λ node. node.node) nodes

module _ (here : Where) where
  abbrev Flattens : List (Node Elem) → List (Node Elem) → Type 0
  Flattens ws vs = (ts : List (Node Read)) → AreNodesOf ts ws → IsFlat here ts vs

  flat_self : (ws : List (Node Elem)) → Flattens ws ws
  flat_self ws ts are = record { flat = ts; flat_of = are; same = refl }

  flat_both : (ws vs ws' vs' : List (Node Elem)) → Flattens ws ws' → Flattens vs vs' → Flattens (ws ++ vs) (ws' ++ vs')
  flat_both ws vs ws' vs' one other ts are =
      let part = parted ts ws vs are in
      let front = one part.front part.front_of in
      let behind = other part.behind part.behind_of in
      record {
        flat = front.flat ++ behind.flat;
        flat_of = both_of front.flat behind.flat ws' vs' front.flat_of behind.flat_of;
        same = ap (content_met here) part.both ∙ nodes_met (λ one. one.content) here part.front part.behind ∙ ap₂ (λ (a b : List Met). a ++ b) front.same behind.same
            ∙ sym (nodes_met (λ one. one.content) here front.flat behind.flat);
      }

  flat_span : (name : List ℕ) (inner vs : List (Node Elem)) → Flattens inner vs → Flattens (span_element name inner ∷ []) vs
  flat_span name inner vs flattens [] are = absurd are
  flat_span name inner vs flattens (Char c ∷ ts) are = absurd are.0
  flat_span name inner vs flattens (Element t ∷ u ∷ ts) are = absurd are.1
  flat_span name inner vs flattens (Element t ∷ []) are =
      let attributes = map named_attribute (attribute (codes "text:style-name") name ∷ []) in
      let is = is_of t 0 (codes "text:span") (attribute (codes "text:style-name") name ∷ []) inner tag.Span attributes are.0 span_tag refl in
      let held = flattens (out-Element t).nodes is.nodes_of in
      record { flat = held.flat; flat_of = held.flat_of; same = append-nil ((gives_of t).content here) ∙ content_at t tag.Span attributes inner is here ∙ held.same }

  -- runs hold the nodes that they are made of
  front_nodes : (node : Spanned) (runs : List Run) → flat_map (λ (run : Run). nodes_in run.inside) (in_front_of node runs) ≡ node.node ∷ flat_map (λ (run : Run). nodes_in run.inside) runs
  front_nodes node [] = refl
  front_nodes node (run ∷ runs) = by_test (is_same_span (outermost_of node.spans) run.outermost) where
    inner : Spanned
    inner = record { spans = within node.spans; node = node.node }

    by_test : (b : Bool) → flat_map (λ (one : Run). nodes_in one.inside) (cond b (record { outermost = run.outermost; inside = inner ∷ run.inside } ∷ runs) (record { outermost = outermost_of node.spans; inside = inner ∷ [] } ∷ run ∷ runs))
        ≡ node.node ∷ flat_map (λ (one : Run). nodes_in one.inside) (run ∷ runs)
    by_test true = refl
    by_test false = refl

  runs_nodes : (nodes : List Spanned) → flat_map (λ (run : Run). nodes_in run.inside) (runs_of nodes) ≡ nodes_in nodes
  runs_nodes [] = refl
  runs_nodes (node ∷ nodes) = front_nodes node (runs_of nodes) ∙ ap (λ (more : List (Node Elem)). node.node ∷ more) (runs_nodes nodes)

  module _ (inner : List Spanned → List (Node Elem)) (inside : (nodes : List Spanned) → Flattens (inner nodes) (nodes_in nodes)) where
    abbrev run_of : Option (List ℕ) → List Spanned → Run
    run_of outermost nodes = record { outermost = outermost; inside = nodes }

    flat_run : (outermost : Option (List ℕ)) (nodes : List Spanned) → Flattens (of_run inner (run_of outermost nodes)) (nodes_in nodes)
    flat_run None nodes = flat_self (nodes_in nodes)
    flat_run (Some name) nodes = flat_span name (inner nodes) (nodes_in nodes) (inside nodes)

    flat_runs : (runs : List Run) → Flattens (flat_map (of_run inner) runs) (flat_map (λ (run : Run). nodes_in run.inside) runs)
    flat_runs [] = flat_self []
    flat_runs (run ∷ runs) =
        flat_both (of_run inner (run_of run.outermost run.inside)) (flat_map (of_run inner) runs) (nodes_in run.inside) (flat_map (λ (one : Run). nodes_in one.inside) runs)
        (flat_run run.outermost run.inside) (flat_runs runs)

  flat_spans : (depth : ℕ) (nodes : List Spanned) → Flattens (in_spans depth nodes) (nodes_in nodes)
  flat_spans zero nodes = flat_self (nodes_in nodes)
  flat_spans (suc depth) nodes =
      subst (Flattens (flat_map (of_run (in_spans depth)) (runs_of nodes))) (runs_nodes nodes) (flat_runs (in_spans depth) (flat_spans depth) (runs_of nodes))

-- the things of pieces are those of items
abbrev things_at : Piece → List Thing
things_at (As item) = things_of item
things_at (Spaces spans count) = []

space_things : (spans : List (List ℕ)) (pieces : List Piece) → flat_map things_at (behind_space spans pieces) ≡ flat_map things_at pieces
space_things spans [] = refl
space_things spans (As item ∷ pieces) = refl
space_things spans (Spaces others count ∷ pieces) = by_test (pointwise bytes_eq spans others) where
  by_test : (b : Bool) → flat_map things_at (cond b (Spaces spans (count + 1) ∷ pieces) (Spaces spans 1 ∷ Spaces others count ∷ pieces)) ≡ flat_map things_at pieces
  by_test true = refl
  by_test false = refl

abbrev space_in : What-F What Item DocNote Par → Bool
space_in (What-F.Char c) = c == 0x20
space_in _ = false

-- a space is no thing
no_thing : (what : What-F What Item DocNote Par) (b : Bool) → (space_in what && b) ≡ true → [] ≡ things_in what
no_thing (What-F.Char c) b e = refl
no_thing What-F.Tab b e = refl
no_thing What-F.Break b e = refl
no_thing (What-F.Field field) b e = cc
no_thing (What-F.Note note) b e = cc
no_thing (What-F.Mark mark) b e = cc

pieces_things : (before items : List Item) → flat_map things_at (pieces_of (placed before items)) ≡ flat_map things_of items
pieces_things before [] = refl
pieces_things before (item ∷ after) = by_test (is_space item && not (stands_for_itself here)) refl (pieces_things (item ∷ before) after) where
  here : Placed
  here = record { before = before; item = item; after = after }

  more : List Piece
  more = pieces_of (placed (item ∷ before) after)

  by_test : (b : Bool) → (is_space item && not (stands_for_itself here)) ≡ b → flat_map things_at more ≡ flat_map things_of after
      → flat_map things_at (cond (is_space item && not (stands_for_itself here)) (behind_space (out-Item item).spans more) (As item ∷ more)) ≡ flat_map things_of (item ∷ after)
  by_test true e rest =
      ap (λ (b : Bool). flat_map things_at (cond b (behind_space (out-Item item).spans more) (As item ∷ more))) e ∙ space_things (out-Item item).spans more ∙ rest
      ∙ ap (λ (things : List Thing). things ++ flat_map things_of after) (no_thing (what_of item) (not (stands_for_itself here)) e)
  by_test false e rest =
      ap (λ (b : Bool). flat_map things_at (cond b (behind_space (out-Item item).spans more) (As item ∷ more))) e ∙ ap (λ (things : List Thing). things_of item ++ things) rest

-- what holds of each item holds of those that stand for themselves
module _ (Fine : Item → Type 0) where
  abbrev IsFine : Piece → Type 0
  IsFine (As item) = Fine item
  IsFine (Spaces spans count) = Unit {0}

  fine_behind : (spans : List (List ℕ)) (pieces : List Piece) → Each IsFine pieces → Each IsFine (behind_space spans pieces)
  fine_behind spans [] each = (tt, tt)
  fine_behind spans (As item ∷ pieces) each = (tt, each)
  fine_behind spans (Spaces others count ∷ pieces) each = by_test (pointwise bytes_eq spans others) where
    by_test : (b : Bool) → Each IsFine (cond b (Spaces spans (count + 1) ∷ pieces) (Spaces spans 1 ∷ Spaces others count ∷ pieces))
    by_test true = (tt, each.1)
    by_test false = (tt, each)

  fine_pieces : (before items : List Item) → Each Fine items → Each IsFine (pieces_of (placed before items))
  fine_pieces before [] each = tt
  fine_pieces before (item ∷ after) each =
      by_test (is_space item && not (stands_for_itself (record { before = before; item = item; after = after }))) (fine_pieces (item ∷ before) after each.1) where
        more : List Piece
        more = pieces_of (placed (item ∷ before) after)

        by_test : (b : Bool) → Each IsFine more → Each IsFine (cond b (behind_space (out-Item item).spans more) (As item ∷ more))
        by_test true fine = fine_behind (out-Item item).spans more fine
        by_test false fine = (each.0, fine)

-- what is met of content, where it is known of each item
module _ (note_node : DocNote → Node Elem) (P : Thing → List Met → Type 0) (here : Where) (Fine : Item → Type 0)
    (of_item : (item : Item) → Fine item → (t : Node Read) → IsNodeOf t (what_node note_node (what_of item)) → AreMet P (things_of item) (content_met here (t ∷ []))) where
  spaces_given : (attrs : List Attr) (t : Read) → placeless t ≡ named (elem_of 0 (codes "text:s") attrs []) → content_met here (Element t ∷ []) ≡ []
  spaces_given attrs t are =
      append-nil ((gives_of t).content here)
      ∙ content_at t tag.Spaces (map named_attribute attrs) [] (is_of t 0 (codes "text:s") attrs [] tag.Spaces (map named_attribute attrs) are spaces_tag refl) here

  spaces_met : (count : ℕ) (t : Node Read) → IsNodeOf t (spaces_element count) → content_met here (t ∷ []) ≡ []
  spaces_met zero (Element t) are = spaces_given (attribute (codes "text:c") (decimal zero) ∷ []) t are
  spaces_met (suc zero) (Element t) are = spaces_given [] t are
  spaces_met (suc (suc count)) (Element t) are = spaces_given (attribute (codes "text:c") (decimal (suc (suc count))) ∷ []) t are
  spaces_met zero (Char c) are = absurd are
  spaces_met (suc zero) (Char c) are = absurd are
  spaces_met (suc (suc count)) (Char c) are = absurd are

  pieces_met : (pieces : List Piece) → Each (IsFine Fine) pieces → (ts : List (Node Read)) → AreNodesOf ts (nodes_in (map (spanned note_node) pieces)) → AreMet P (flat_map things_at pieces) (content_met here ts)
  pieces_met [] fine [] are = refl
  pieces_met [] fine (t ∷ ts) are = absurd are
  pieces_met (piece ∷ pieces) fine [] are = absurd are
  pieces_met (As item ∷ pieces) fine (t ∷ ts) are =
      met_is P (things_of item ++ flat_map things_at pieces) (content_met here (t ∷ ts)) (content_met here (t ∷ []) ++ content_met here ts) (nodes_met (λ one. one.content) here (t ∷ []) ts)
      (met_both P (things_of item) (flat_map things_at pieces) (content_met here (t ∷ [])) (content_met here ts) (of_item item fine.0 t are.0) (pieces_met pieces fine.1 ts are.1))
  pieces_met (Spaces spans count ∷ pieces) fine (t ∷ ts) are =
      met_is P (flat_map things_at pieces) (content_met here (t ∷ ts)) (content_met here ts)
      (nodes_met (λ one. one.content) here (t ∷ []) ts ∙ ap (λ (all : List Met). all ++ content_met here ts) (spaces_met count t are.0)) (pieces_met pieces fine.1 ts are.1)

  pub items_met : (items : List Item) → Each Fine items → (ts : List (Node Read)) → AreNodesOf ts (content note_node items) → AreMet P (flat_map things_of items) (content_met here ts)
  items_met items fine ts are =
      let nodes = map (spanned note_node) (pieces_of (placed [] items)) in
      let flat = flat_spans here (span_depth nodes) nodes ts are in
      met_is P (flat_map things_of items) (content_met here ts) (content_met here flat.flat) flat.same
      (subst (λ (things : List Thing). AreMet P things (content_met here flat.flat)) (pieces_things [] items)
      (pieces_met (pieces_of (placed [] items)) (fine_pieces Fine [] items fine) flat.flat flat.flat_of))
