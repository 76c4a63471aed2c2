-- The content of paragraphs has no places.
use Rattle.std.proofs.Common.{ℕ, Bool, true, false, cond, List, [], ◌∷◌, map, codes, zero, suc, refl, Option, Some, None}
use Rattle.std.specs.List.{flat_map, AllByRecursion as Each}
use Rattle.markup_nodes.specs.declared.tree.Elem.{Elem}
use Rattle.markup_nodes.specs.Node.{Node}
use Rattle.doc_model.specs.declared.field.Field.{Field}
use Rattle.doc_model.specs.declared.field.Field.TheVariants.{Sequence, VarSet, VarGet, Chapter, PageNumber, PageCount, BookRef, SeqRef, NoteRef}
use Rattle.doc_model.specs.declared.paragraph.Par.{Par}
use Rattle.doc_model.specs.declared.paragraph.Item.{Item}
use Rattle.doc_model.specs.declared.paragraph.What.{What}
use Rattle.doc_model.specs.declared.paragraph.What.TheOpen.{What-F}
use Rattle.doc_model.specs.declared.paragraph.Note.{Note}
use Rattle.doc_model.specs.declared.paragraph.Mark.{Mark}
use Rattle.doc_model.specs.declared.paragraph.Mark.TheVariants.{Point, Start, End}
use Rattle.doc_model.specs.Parts.{what_of}
use Rattle.spelling_model.specs.Spelling.{Piece, As, Spaces, pieces_of, placed}
use Rattle.written_model.specs.Content.{spaces_element, mark_element, what_node, Spanned, spanned, Run, outermost_of, within, is_same_span, in_front_of, runs_of, span_element, of_run, in_spans, span_depth, content}
use Rattle.written_model.specs.Elements.{characters}
use Rattle.written_model.specs.Fields.{field_element}
use Rattle.back_unplaced.proofs.Nodes.{IsStill, AreStill, element_still, empty_still, one_still, both_still, each_still, characters_still}

field_still : (field : Field) → IsStill (field_element field)
field_still (Sequence name refname format) = empty_still (codes "text:sequence") _
field_still (VarSet name value) = element_still (codes "text:variable-set") _ (characters value) (characters_still value)
field_still (VarGet name) = empty_still (codes "text:variable-get") _
field_still (Chapter display level) = empty_still (codes "text:chapter") _
field_still (PageNumber select adjust format) = empty_still (codes "text:page-number") _
field_still (PageCount format) = empty_still (codes "text:page-count") _
field_still (BookRef name form) = empty_still (codes "text:bookmark-ref") _
field_still (SeqRef name form) = empty_still (codes "text:sequence-ref") _
field_still (NoteRef name class form) = empty_still (codes "text:note-ref") _

spaces_still : (count : ℕ) → IsStill (spaces_element count)
spaces_still zero = empty_still (codes "text:s") _
spaces_still (suc zero) = empty_still (codes "text:s") _
spaces_still (suc (suc count)) = empty_still (codes "text:s") _

mark_still : (mark : Mark) → IsStill (mark_element mark)
mark_still (Point name) = empty_still (codes "text:bookmark") _
mark_still (Start name) = empty_still (codes "text:bookmark-start") _
mark_still (End name) = empty_still (codes "text:bookmark-end") _

-- nodes that still are to stand in spans
abbrev AreStillIn : List Spanned → Type 0
AreStillIn nodes = Each (λ node. IsStill node.node) nodes

abbrev AreStillRuns : List Run → Type 0
AreStillRuns runs = Each (λ run. AreStillIn run.inside) runs

front_still : (node : Spanned) (runs : List Run) → IsStill node.node → AreStillRuns runs → AreStillRuns (in_front_of node runs)
front_still node [] one more = ((one, tt), tt)
front_still node (run ∷ runs) one more = by_test (is_same_span (outermost_of node.spans) run.outermost) where
  by_test : (same : Bool) → AreStillRuns (cond same ((record { outermost = run.outermost; inside = (record { spans = within node.spans; node = node.node }) ∷ run.inside }) ∷ runs)
      ((record { outermost = outermost_of node.spans; inside = (record { spans = within node.spans; node = node.node }) ∷ [] }) ∷ run ∷ runs))
  by_test true = ((one, more.0), more.1)
  by_test false = ((one, tt), more)

runs_still : (nodes : List Spanned) → AreStillIn nodes → AreStillRuns (runs_of nodes)
runs_still [] still = tt
runs_still (node ∷ nodes) still = front_still node (runs_of nodes) still.0 (runs_still nodes still.1)

bare_still : (nodes : List Spanned) → AreStillIn nodes → AreStill (map (λ (node : Spanned). node.node) nodes)
bare_still nodes still = each_still (λ (node : Spanned). node.node) nodes still

module _ (inner : List Spanned → List (Node Elem)) (inner_still : (nodes : List Spanned) → AreStillIn nodes → AreStill (inner nodes)) where
  run_still : (outermost : Option (List ℕ)) (inside : List Spanned) → AreStillIn inside → AreStill (of_run inner (record { outermost = outermost; inside = inside }))
  run_still None inside still = bare_still inside still
  run_still (Some name) inside still = one_still (span_element name (inner inside)) (element_still (codes "text:span") _ (inner inside) (inner_still inside still))

  all_runs_still : (runs : List Run) → AreStillRuns runs → AreStill (flat_map (of_run inner) runs)
  all_runs_still [] still = refl
  all_runs_still (run ∷ runs) still = both_still (of_run inner run) (flat_map (of_run inner) runs) (run_still run.outermost run.inside still.0) (all_runs_still runs still.1)

spans_still : (depth : ℕ) (nodes : List Spanned) → AreStillIn nodes → AreStill (in_spans depth nodes)
spans_still zero nodes still = bare_still nodes still
spans_still (suc depth) nodes still = all_runs_still (in_spans depth) (spans_still depth) (runs_of nodes) (runs_still nodes still)

-- the content, where notes have no places
module _ (note_node : Note → Node Elem) (note_still : (note : Note) → IsStill (note_node note)) where
  what_still : (what : What-F What Item Note Par) → IsStill (what_node note_node what)
  what_still (What-F.Char c) = refl
  what_still What-F.Tab = empty_still (codes "text:tab") []
  what_still What-F.Break = empty_still (codes "text:line-break") []
  what_still (What-F.Field field) = field_still field
  what_still (What-F.Note note) = note_still note
  what_still (What-F.Mark mark) = mark_still mark

  piece_still : (piece : Piece) → IsStill (spanned note_node piece).node
  piece_still (As item) = what_still (what_of item)
  piece_still (Spaces spans count) = spaces_still count

  pieces_still : (pieces : List Piece) → AreStillIn (map (spanned note_node) pieces)
  pieces_still [] = tt
  pieces_still (piece ∷ pieces) = (piece_still piece, pieces_still pieces)

  pub content_still : (items : List Item) → AreStill (content note_node items)
  content_still items = let nodes : List Spanned = map (spanned note_node) (pieces_of (placed [] items)) in spans_still (span_depth nodes) nodes (pieces_still (pieces_of (placed [] items)))
