-- The content of paragraphs may be written.
use Rattle.std.proofs.Common.{ℕ, ◌+◌, ◌≤◌, Bool, true, false, not, ◌&&◌, cond, List, [], ◌∷◌, map, length, codes, decimal, zero, suc, refl, Option, Some, None, arith, bytes_eq}
use Rattle.std.specs.Cmp.Lexicographic.{pointwise}
use Rattle.std.specs.List.{flat_map, AllByRecursion as Each}
use Rattle.markup_nodes.specs.declared.tree.Elem.{Elem}
use Rattle.markup_nodes.specs.Node.{Node}
use Rattle.markup_parts.specs.Chars.{is_name_start, is_name_char}
use Rattle.doc_model.specs.declared.paragraph.Par.{Par}
use Rattle.doc_model.specs.declared.paragraph.Item.{Item, out-Item}
use Rattle.doc_model.specs.declared.paragraph.What.{What}
use Rattle.doc_model.specs.declared.paragraph.What.TheOpen.{What-F}
use Rattle.doc_model.specs.declared.paragraph.Note.{Note}
use Rattle.doc_model.specs.declared.paragraph.Mark.{Mark}
use Rattle.doc_model.specs.declared.paragraph.Mark.TheVariants.{Point, Start, End}
use Rattle.doc_model.specs.Chars.{IsLegalText}
use Rattle.doc_model.specs.Parts.{mark_name, what_of}
use Rattle.spelling_model.specs.Spelling.{Piece, As, Spaces, behind_space, is_space, pieces_of, placed, stands_for_itself}
use Rattle.written_model.specs.Content.{spaces_element, mark_element, what_node, Spanned, spanned, Run, outermost_of, within, is_same_span, in_front_of, runs_of, of_run, in_spans, span_depth, content}
use Rattle.back_writable.proofs.Chars.{AreLegal, decimal_legal, legal_text}
use Rattle.back_writable.proofs.Fields.{IsGoodField, field_fits}
use Rattle.back_writable.proofs.Lists.{each_append, each_made, greatest_at_most}
use Rattle.back_writable.proofs.Nodes.{Fits, AreFit, attribute_good, element_fits, empty_fits, all_looser}

spaces_fit : (room count : ℕ) → Fits (suc room) (spaces_element count)
unfolding is_name_start is_name_char
spaces_fit room zero = empty_fits room (codes "text:s") _ refl (attribute_good (codes "text:c") (decimal zero) refl (decimal_legal zero), tt)
spaces_fit room (suc zero) = empty_fits room (codes "text:s") [] refl tt
spaces_fit room (suc (suc count)) = empty_fits room (codes "text:s") _ refl (attribute_good (codes "text:c") (decimal (suc (suc count))) refl (decimal_legal (suc (suc count))), tt)

mark_fits : (room : ℕ) (mark : Mark) → AreLegal (mark_name mark) → Fits (suc room) (mark_element mark)
unfolding is_name_start is_name_char
mark_fits room (Point name) legal = empty_fits room (codes "text:bookmark") _ refl (attribute_good (codes "text:name") name refl legal, tt)
mark_fits room (Start name) legal = empty_fits room (codes "text:bookmark-start") _ refl (attribute_good (codes "text:name") name refl legal, tt)
mark_fits room (End name) legal = empty_fits room (codes "text:bookmark-end") _ refl (attribute_good (codes "text:name") name refl legal, tt)

-- nodes that are still to stand in spans of legal names
record IsFit (room : ℕ) (node : Spanned) : Type 0 where
  fits : Fits room node.node
  names : Each AreLegal node.spans

abbrev IsLegalSpan : Option (List ℕ) → Type 0
IsLegalSpan None = Unit {0}
IsLegalSpan (Some name) = AreLegal name

record IsFitRun (room : ℕ) (run : Run) : Type 0 where
  outermost : IsLegalSpan run.outermost
  inside : Each (IsFit room) run.inside

outermost_legal : (spans : List (List ℕ)) → Each AreLegal spans → IsLegalSpan (outermost_of spans)
outermost_legal [] legal = tt
outermost_legal (name ∷ names) legal = legal.0

within_legal : (spans : List (List ℕ)) → Each AreLegal spans → Each AreLegal (within spans)
within_legal [] legal = tt
within_legal (name ∷ names) legal = legal.1

abbrev inner : Spanned → Spanned
inner node = record { spans = within node.spans; node = node.node }

inner_fits : (room : ℕ) (node : Spanned) → IsFit room node → IsFit room (inner node)
inner_fits room node fit = record { fits = fit.fits; names = within_legal node.spans fit.names }

alone : (room : ℕ) (node : Spanned) → IsFit room node → IsFitRun room (record { outermost = outermost_of node.spans; inside = inner node ∷ [] })
alone room node fit = record { outermost = outermost_legal node.spans fit.names; inside = (inner_fits room node fit, tt) }

front_fits : (room : ℕ) (node : Spanned) (runs : List Run) → IsFit room node → Each (IsFitRun room) runs → Each (IsFitRun room) (in_front_of node runs)
front_fits room node [] one more = (alone room node one, tt)
front_fits room node (run ∷ runs) one more = by_test (is_same_span (outermost_of node.spans) run.outermost) where
  by_test : (same : Bool) → Each (IsFitRun room) (cond same (record { outermost = run.outermost; inside = inner node ∷ run.inside } ∷ runs) (record { outermost = outermost_of node.spans; inside = inner node ∷ [] } ∷ run ∷ runs))
  by_test true = (record { outermost = more.0.outermost; inside = (inner_fits room node one, more.0.inside) }, more.1)
  by_test false = (alone room node one, more)

runs_fit : (room : ℕ) (nodes : List Spanned) → Each (IsFit room) nodes → Each (IsFitRun room) (runs_of nodes)
runs_fit room [] fit = tt
runs_fit room (node ∷ nodes) fit = front_fits room node (runs_of nodes) fit.0 (runs_fit room nodes fit.1)

bare_fit : (room : ℕ) (nodes : List Spanned) → Each (IsFit room) nodes → AreFit room (map (λ (node : Spanned). node.node) nodes)
bare_fit room nodes fit = each_made (IsFit room) (Fits room) (λ (node : Spanned). node.node) (λ node one. one.fits) nodes fit

-- runs, where what stands within an outermost span fits
module _ (room most : ℕ) (le : room ≤ most) (put : List Spanned → List (Node Elem)) (put_fit : (nodes : List Spanned) → Each (IsFit room) nodes → AreFit most (put nodes)) where
  run_fits : (outermost : Option (List ℕ)) (inside : List Spanned) → IsLegalSpan outermost → Each (IsFit room) inside → AreFit (suc most) (of_run put (record { outermost = outermost; inside = inside }))
  unfolding is_name_start is_name_char
  run_fits None inside legal fit = all_looser room (suc most) (omega (arith, le)) (map (λ (node : Spanned). node.node) inside) (bare_fit room inside fit)
  run_fits (Some name) inside legal fit = (element_fits most (codes "text:span") _ (put inside) refl (attribute_good (codes "text:style-name") name refl legal, tt) (put_fit inside fit), tt)

  all_runs_fit : (runs : List Run) → Each (IsFitRun room) runs → AreFit (suc most) (flat_map (of_run put) runs)
  all_runs_fit [] fit = tt
  all_runs_fit (run ∷ runs) fit = each_append (Fits (suc most)) (of_run put run) (flat_map (of_run put) runs) (run_fits run.outermost run.inside fit.0.outermost fit.0.inside) (all_runs_fit runs fit.1)

-- each span takes room for one element
spans_fit : (room depth : ℕ) (nodes : List Spanned) → Each (IsFit room) nodes → AreFit (room + depth) (in_spans depth nodes)
spans_fit room zero nodes fit = all_looser room (room + zero) (omega arith) (map (λ (node : Spanned). node.node) nodes) (bare_fit room nodes fit)
spans_fit room (suc depth) nodes fit =
    all_looser (suc (room + depth)) (room + suc depth) (omega arith) (flat_map (of_run (in_spans depth)) (runs_of nodes))
    (all_runs_fit room (room + depth) (omega arith) (in_spans depth) (spans_fit room depth) (runs_of nodes) (runs_fit room nodes fit))

-- items, where notes are so
module _ (IsGoodNote : Note → Type 0) where
  abbrev pub IsGoodWhat : What-F What Item Note Par → Type 0
  IsGoodWhat (What-F.Char c) = IsLegalText c
  IsGoodWhat What-F.Tab = Unit {0}
  IsGoodWhat What-F.Break = Unit {0}
  IsGoodWhat (What-F.Field field) = IsGoodField field
  IsGoodWhat (What-F.Note note) = IsGoodNote note
  IsGoodWhat (What-F.Mark mark) = AreLegal (mark_name mark)

  -- an item that may be written
  pub record IsGoodItem (item : Item) : Type 0 where
    pub what : IsGoodWhat (what_of item)
    pub names : Each AreLegal (out-Item item).spans
    pub few : length (out-Item item).spans ≤ 8

  record AreSpans (spans : List (List ℕ)) : Type 0 where
    names : Each AreLegal spans
    few : length spans ≤ 8

  abbrev IsGoodPiece : Piece → Type 0
  IsGoodPiece (As item) = IsGoodItem item
  IsGoodPiece (Spaces spans count) = AreSpans spans

  space_good : (spans : List (List ℕ)) (pieces : List Piece) → AreSpans spans → Each IsGoodPiece pieces → Each IsGoodPiece (behind_space spans pieces)
  space_good spans [] are good = (are, tt)
  space_good spans (As item ∷ pieces) are good = (are, good)
  space_good spans (Spaces others count ∷ pieces) are good = by_test (pointwise bytes_eq spans others) where
    by_test : (same : Bool) → Each IsGoodPiece (cond same (Spaces spans (count + 1) ∷ pieces) (Spaces spans 1 ∷ Spaces others count ∷ pieces))
    by_test true = (are, good.1)
    by_test false = (are, good)

  pieces_good : (before items : List Item) → Each IsGoodItem items → Each IsGoodPiece (pieces_of (placed before items))
  pieces_good before [] good = tt
  pieces_good before (item ∷ after) good = by_need (pieces_good (item ∷ before) after good.1) (is_space item && not (stands_for_itself (record { before = before; item = item; after = after }))) where
    by_need : Each IsGoodPiece (pieces_of (placed (item ∷ before) after)) → (need : Bool)
        → Each IsGoodPiece (cond need (behind_space (out-Item item).spans (pieces_of (placed (item ∷ before) after))) (As item ∷ pieces_of (placed (item ∷ before) after)))
    by_need more true = space_good (out-Item item).spans (pieces_of (placed (item ∷ before) after)) (record { names = good.0.names; few = good.0.few }) more
    by_need more false = (good.0, more)

  -- the content, where notes that are so fit
  module _ (room : ℕ) (note_node : Note → Node Elem) (note_fits : (note : Note) → IsGoodNote note → Fits (suc room) (note_node note)) where
    what_fits : (what : What-F What Item Note Par) → IsGoodWhat what → Fits (suc room) (what_node note_node what)
    unfolding is_name_start is_name_char
    what_fits (What-F.Char c) good = record { legal = legal_text c good; low = omega arith }
    what_fits What-F.Tab good = empty_fits room (codes "text:tab") [] refl tt
    what_fits What-F.Break good = empty_fits room (codes "text:line-break") [] refl tt
    what_fits (What-F.Field field) good = field_fits room field good
    what_fits (What-F.Note note) good = note_fits note good
    what_fits (What-F.Mark mark) good = mark_fits room mark good

    piece_fits : (piece : Piece) → IsGoodPiece piece → IsFit (suc room) (spanned note_node piece)
    piece_fits (As item) good = record { fits = what_fits (what_of item) good.what; names = good.names }
    piece_fits (Spaces spans count) good = record { fits = spaces_fit room count; names = good.names }

    piece_few : (piece : Piece) → IsGoodPiece piece → length (spanned note_node piece).spans ≤ 8
    piece_few (As item) good = good.few
    piece_few (Spaces spans count) good = good.few

    pub content_fits : (items : List Item) → Each IsGoodItem items → AreFit (suc room + 8) (content note_node items)
    content_fits items good =
        let pieces : List Piece = pieces_of (placed [] items) in
        let nodes : List Spanned = map (spanned note_node) pieces in
        let each : Each IsGoodPiece pieces = pieces_good [] items good in
        let few : span_depth nodes ≤ 8 =
        greatest_at_most 8 0 (map (λ (node : Spanned). length node.spans) nodes) (omega arith)
        (each_made (λ (node : Spanned). length node.spans ≤ 8) (λ n. n ≤ 8) (λ (node : Spanned). length node.spans) (λ node h. h) nodes (each_made IsGoodPiece (λ (node : Spanned). length node.spans ≤ 8) (spanned note_node) piece_few pieces each)) in
        all_looser (suc room + span_depth nodes) (suc room + 8) (omega (arith, few)) (content note_node items)
        (spans_fit (suc room) (span_depth nodes) nodes (each_made IsGoodPiece (IsFit (suc room)) (spanned note_node) piece_fits pieces each))
