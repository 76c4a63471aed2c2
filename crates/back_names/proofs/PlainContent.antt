-- The content of paragraphs is plain.
use Rattle.std.proofs.Common.{◌≡◌, ℕ, ◌&&◌, Bool, true, false, cond, List, [], ◌∷◌, map, refl, codes, decimal, Option, Some, None, zero, suc}
use Rattle.std.specs.List.{flat_map, list_all}
use Rattle.std.proofs.lemmas.Bool.{and_parts, and_from}
use Rattle.markup_nodes.specs.declared.tree.Elem.{Elem}
use Rattle.markup_nodes.specs.Node.{Node}
use Rattle.doc_model.specs.declared.field.Field.{Field}
use Rattle.doc_model.specs.declared.field.Field.TheVariants.{Sequence, VarSet, VarGet, Chapter, PageNumber, PageCount, BookRef, SeqRef, NoteRef}
use Rattle.doc_model.specs.declared.paragraph.Par.{Par}
use Rattle.doc_model.specs.declared.paragraph.Item.{Item}
use Rattle.doc_model.specs.declared.paragraph.What.{What}
use Rattle.doc_model.specs.declared.paragraph.What.TheOpen.{What-F}
use Rattle.doc_model.specs.declared.paragraph.Note.{Note}
use Rattle.doc_model.specs.declared.paragraph.Mark.{Mark}
use Rattle.doc_model.specs.declared.paragraph.Mark.TheVariants.{Point, Start, End}
use Rattle.doc_model.specs.Parts.{what_of}
use Rattle.spelling_model.specs.Spelling.{Piece, As, Spaces, pieces_of, placed}
use Rattle.written_model.specs.Elements.{attribute, empty_element, characters}
use Rattle.written_model.specs.Values.{format_text, chapter_text, select_text, reference_text, sequence_text, class_text, whole_text}
use Rattle.written_model.specs.Fields.{field_element}
use Rattle.written_model.specs.Content.{spaces_element, mark_element, what_node, Spanned, spanned, Run, outermost_of, within, is_same_span, in_front_of, runs_of, span_element, of_run, in_spans, span_depth, content, bare_items, head_content}
use Rattle.back_names.proofs.Plain.{is_plain_node}
use Rattle.back_names.proofs.Rows.{no_rows, joined, given_first, unless_row}
use Rattle.back_names.proofs.PlainLists.{IsPlain, ArePlain, element_plain, one_plain, both_plain, characters_plain}

-- fields
pub field_plain : (field : Field) → IsPlain (field_element field)
field_plain (Sequence name refname format) =
    element_plain (codes "text:sequence") _ []
    (joined (given_first (codes "text:name") name (unless_row (codes "text:ref-name") refname)) (given_first (codes "style:num-format") (format_text format) no_rows)) refl refl
field_plain (VarSet name value) = element_plain (codes "text:variable-set") _ (characters value) (given_first (codes "text:name") name no_rows) refl (characters_plain value)
field_plain (VarGet name) = element_plain (codes "text:variable-get") _ [] (given_first (codes "text:name") name no_rows) refl refl
field_plain (Chapter display level) =
    element_plain (codes "text:chapter") _ [] (given_first (codes "text:display") (chapter_text display) (given_first (codes "text:outline-level") (decimal level) no_rows)) refl refl
field_plain (PageNumber select adjust format) =
    element_plain (codes "text:page-number") _ []
    (given_first (codes "text:select-page") (select_text select) (given_first (codes "text:page-adjust") (whole_text adjust) (given_first (codes "style:num-format") (format_text format) no_rows))) refl refl
field_plain (PageCount format) = element_plain (codes "text:page-count") _ [] (given_first (codes "style:num-format") (format_text format) no_rows) refl refl
field_plain (BookRef name form) =
    element_plain (codes "text:bookmark-ref") _ [] (joined (unless_row (codes "text:ref-name") name) (given_first (codes "text:reference-format") (reference_text form) no_rows)) refl refl
field_plain (SeqRef name form) =
    element_plain (codes "text:sequence-ref") _ [] (joined (unless_row (codes "text:ref-name") name) (given_first (codes "text:reference-format") (sequence_text form) no_rows)) refl refl
field_plain (NoteRef name class form) =
    element_plain (codes "text:note-ref") _ []
    (joined (unless_row (codes "text:ref-name") name) (given_first (codes "text:reference-format") (reference_text form) (given_first (codes "text:note-class") (class_text class) no_rows))) refl refl

spaces_plain : (count : ℕ) → IsPlain (spaces_element count)
spaces_plain zero = element_plain (codes "text:s") (attribute (codes "text:c") (decimal zero) ∷ []) [] (given_first (codes "text:c") (decimal zero) no_rows) refl refl
spaces_plain (suc zero) = element_plain (codes "text:s") [] [] no_rows refl refl
spaces_plain (suc (suc count)) = element_plain (codes "text:s") (attribute (codes "text:c") (decimal (suc (suc count))) ∷ []) [] (given_first (codes "text:c") (decimal (suc (suc count))) no_rows) refl refl

mark_plain : (mark : Mark) → IsPlain (mark_element mark)
mark_plain (Point name) = element_plain (codes "text:bookmark") (attribute (codes "text:name") name ∷ []) [] (given_first (codes "text:name") name no_rows) refl refl
mark_plain (Start name) = element_plain (codes "text:bookmark-start") (attribute (codes "text:name") name ∷ []) [] (given_first (codes "text:name") name no_rows) refl refl
mark_plain (End name) = element_plain (codes "text:bookmark-end") (attribute (codes "text:name") name ∷ []) [] (given_first (codes "text:name") name no_rows) refl refl

-- nodes in spans
abbrev plain_spanned : Spanned → Bool
plain_spanned node = is_plain_node node.node

abbrev ArePlainSpanned : List Spanned → Type 0
ArePlainSpanned nodes = list_all plain_spanned nodes ≡ true

abbrev plain_run : Run → Bool
plain_run run = list_all plain_spanned run.inside

bare_plain : (nodes : List Spanned) → ArePlainSpanned nodes → ArePlain (map (λ (node : Spanned). node.node) nodes)
bare_plain [] plain = refl
bare_plain (node ∷ nodes) plain =
    let parts = and_parts (plain_spanned node) (list_all plain_spanned nodes) plain in
    and_from (plain_spanned node) (list_all is_plain_node (map (λ (one : Spanned). one.node) nodes)) parts.0 (bare_plain nodes parts.1)

-- a node within its outermost span
abbrev inner_of : Spanned → Spanned
inner_of node = record { spans = within node.spans; node = node.node }

front_plain : (node : Spanned) (runs : List Run) → plain_spanned node ≡ true → list_all plain_run runs ≡ true → list_all plain_run (in_front_of node runs) ≡ true
front_plain node [] one more = and_from (plain_spanned node && true) true (and_from (plain_spanned node) true one refl) refl
front_plain node (run ∷ runs) one more = by_test (is_same_span (outermost_of node.spans) run.outermost) where
  by_test : (same : Bool)
      → list_all plain_run (cond same (record { outermost = run.outermost; inside = inner_of node ∷ run.inside } ∷ runs) (record { outermost = outermost_of node.spans; inside = inner_of node ∷ [] } ∷ run ∷ runs)) ≡ true
  by_test true =
      let parts = and_parts (plain_run run) (list_all plain_run runs) more in
      and_from (plain_spanned node && list_all plain_spanned run.inside) (list_all plain_run runs) (and_from (plain_spanned node) (list_all plain_spanned run.inside) one parts.0) parts.1
  by_test false = and_from (plain_spanned node && true) (list_all plain_run (run ∷ runs)) (and_from (plain_spanned node) true one refl) more

runs_plain : (nodes : List Spanned) → ArePlainSpanned nodes → list_all plain_run (runs_of nodes) ≡ true
runs_plain [] plain = refl
runs_plain (node ∷ nodes) plain =
    let parts = and_parts (plain_spanned node) (list_all plain_spanned nodes) plain in
    front_plain node (runs_of nodes) parts.0 (runs_plain nodes parts.1)

module _ (inner : List Spanned → List (Node Elem)) (inner_plain : (nodes : List Spanned) → ArePlainSpanned nodes → ArePlain (inner nodes)) where
  run_plain : (outermost : Option (List ℕ)) (inside : List Spanned) → ArePlainSpanned inside → ArePlain (of_run inner (record { outermost = outermost; inside = inside }))
  run_plain None inside plain = bare_plain inside plain
  run_plain (Some name) inside plain =
      one_plain (span_element name (inner inside))
      (element_plain (codes "text:span") (attribute (codes "text:style-name") name ∷ []) (inner inside) (given_first (codes "text:style-name") name no_rows) refl (inner_plain inside plain))

  all_runs_plain : (runs : List Run) → list_all plain_run runs ≡ true → ArePlain (flat_map (of_run inner) runs)
  all_runs_plain [] plain = refl
  all_runs_plain (run ∷ runs) plain =
      let parts = and_parts (plain_run run) (list_all plain_run runs) plain in
      both_plain (of_run inner run) (flat_map (of_run inner) runs) (run_plain run.outermost run.inside parts.0) (all_runs_plain runs parts.1)

spans_plain : (depth : ℕ) (nodes : List Spanned) → ArePlainSpanned nodes → ArePlain (in_spans depth nodes)
spans_plain zero nodes plain = bare_plain nodes plain
spans_plain (suc depth) nodes plain = all_runs_plain (in_spans depth) (spans_plain depth) (runs_of nodes) (runs_plain nodes plain)

-- the content, where notes are plain
module _ (note_node : Note → Node Elem) (note_plain : (note : Note) → IsPlain (note_node note)) where
  what_plain : (what : What-F What Item Note Par) → IsPlain (what_node note_node what)
  what_plain (What-F.Char c) = refl
  what_plain What-F.Tab = element_plain (codes "text:tab") [] [] no_rows refl refl
  what_plain What-F.Break = element_plain (codes "text:line-break") [] [] no_rows refl refl
  what_plain (What-F.Field field) = field_plain field
  what_plain (What-F.Note note) = note_plain note
  what_plain (What-F.Mark mark) = mark_plain mark

  piece_plain : (piece : Piece) → plain_spanned (spanned note_node piece) ≡ true
  piece_plain (As item) = what_plain (what_of item)
  piece_plain (Spaces spans count) = spaces_plain count

  pieces_plain : (pieces : List Piece) → ArePlainSpanned (map (spanned note_node) pieces)
  pieces_plain [] = refl
  pieces_plain (piece ∷ pieces) = and_from (plain_spanned (spanned note_node piece)) (list_all plain_spanned (map (spanned note_node) pieces)) (piece_plain piece) (pieces_plain pieces)

  pub content_plain : (items : List Item) → ArePlain (content note_node items)
  content_plain items =
      let nodes = map (spanned note_node) (pieces_of (placed [] items)) in
      spans_plain (span_depth nodes) nodes (pieces_plain (pieces_of (placed [] items)))

pub bare_note_plain : IsPlain (empty_element (codes "text:note") [])
bare_note_plain = element_plain (codes "text:note") [] [] no_rows refl refl

pub head_content_plain : (whats : List What) → ArePlain (head_content whats)
head_content_plain whats = content_plain (λ note. empty_element (codes "text:note") []) (λ note. bare_note_plain) (bare_items whats)
