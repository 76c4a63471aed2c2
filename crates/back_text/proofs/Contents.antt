-- What stands in the content of written paragraphs is in place.
use Rattle.std.proofs.Common.{◌≡◌, ℕ, ◌+◌, ◌&&◌, ◌||◌, not, bytes_eq, Bool, true, false, cond, List, [], ◌∷◌, ◌++◌, map, codes, zero, suc, refl, ap, ◌∙◌, Option, Some, None, is_some}
use Rattle.std.specs.Cmp.Lexicographic.{pointwise}
use Rattle.std.specs.List.{flat_map, AllByRecursion as Each, list_all}
use Rattle.markup_nodes.specs.declared.tree.Elem.{Elem}
use Rattle.markup_nodes.specs.Node.{Node}
use Rattle.doc_model.specs.declared.field.Field.{Field}
use Rattle.doc_model.specs.declared.field.Field.TheVariants as fields
use Rattle.doc_model.specs.declared.paragraph.Item.{Item, out-Item}
use Rattle.doc_model.specs.declared.paragraph.Mark.{Mark}
use Rattle.doc_model.specs.declared.paragraph.Mark.TheVariants as mark
use Rattle.doc_model.specs.declared.paragraph.Note.{Note}
use Rattle.doc_model.specs.declared.paragraph.Par.{Par}
use Rattle.doc_model.specs.declared.paragraph.What.{What}
use Rattle.doc_model.specs.declared.paragraph.What.TheOpen.{What-F}
use Rattle.doc_model.specs.Parts.{mark_name, what_of}
use Rattle.load_model.specs.declared.names.Key.TheVariants as key
use Rattle.load_model.specs.declared.names.Tag.TheVariants as tag
use Rattle.spelling_model.specs.Spelling.{Piece, As, Spaces, behind_space, is_space, pieces_of, placed, stands_for_itself}
use Rattle.written_model.specs.Content.{Run, Spanned, content, in_front_of, in_spans, is_same_span, mark_element, of_run, outermost_of, runs_of, span_depth, spaces_element, spanned, what_node, within}
use Rattle.written_model.specs.Elements.{attribute, characters, unless_empty}
use Rattle.written_model.specs.Fields.{field_element, format_attribute}
use Rattle.written_model.specs.Values.{format_text}
use Rattle.back_names.specs.Named.{named_attribute}
use Rattle.back_fields.specs.Fit.{IsName, IsNameOrNone}
use Rattle.back_fields.proofs.Attributes.{at, at_unless, named_first, named_unless}
use Rattle.back_fields.proofs.Keys as field_name
use Rattle.back_items.proofs.Keys as item_name
use Rattle.back_met.proofs.Keys.{span_tag}
use Rattle.back_met.proofs.Named.{IsNamedField, IsNamedWhat}
use Rattle.back_values.proofs.Texts.{name_back}
use Rattle.back_text.proofs.Stood.{Stand, both_stand, each_stand, one_stands, stood_characters}
use Rattle.back_text_places.specs.Standing.{Standing, has_name, has_name_or_none}

abbrev pub is_content : Standing → Bool
is_content one = one.content

abbrev pub AreContent : List (Node Elem) → Type 0
AreContent = Stand is_content

abbrev pub IsContent : Node Elem → Type 0
IsContent node = AreContent (node ∷ [])

-- a mark
mark_attributes : (name : List ℕ) → map named_attribute (attribute (codes "text:name") name ∷ []) ≡ at key.TextName name ∷ []
mark_attributes name = named_first (codes "text:name") name key.TextName [] [] field_name.name_key refl

is_named : (name : List ℕ) → IsName name → has_name key.TextName (map named_attribute (attribute (codes "text:name") name ∷ [])) ≡ true
is_named name is = ap (has_name key.TextName) (mark_attributes name) ∙ ap is_some (name_back name is.0 is.1)

mark_stands : (mark : Mark) → IsName (mark_name mark) → IsContent (mark_element mark)
mark_stands (mark.Point name) is = one_stands is_content (codes "text:bookmark") (attribute (codes "text:name") name ∷ []) [] tag.Bookmark item_name.bookmark_tag (is_named name is)
mark_stands (mark.Start name) is = one_stands is_content (codes "text:bookmark-start") (attribute (codes "text:name") name ∷ []) [] tag.BookmarkStart item_name.bookmark_start_tag (is_named name is)
mark_stands (mark.End name) is = one_stands is_content (codes "text:bookmark-end") (attribute (codes "text:name") name ∷ []) [] tag.BookmarkEnd item_name.bookmark_end_tag (is_named name is)

-- a field
refname_stands : (name refname format : List ℕ) → IsNameOrNone refname → has_name_or_none key.ReferenceName (at key.TextName name ∷ at_unless key.ReferenceName refname (at key.NumberFormat format ∷ [])) ≡ true
refname_stands name [] format few = refl
refname_stands name (c ∷ cs) format few = ap (λ (found : Option (List ℕ)). is_some found || false) (name_back (c ∷ cs) (λ e. cc) few)

field_stands : (field : Field) → IsNamedField field → IsContent (field_element field)
field_stands (fields.Sequence name refname format) is =
    one_stands is_content (codes "text:sequence") (attribute (codes "text:name") name ∷ (unless_empty (codes "text:ref-name") refname ++ format_attribute format ∷ [])) [] tag.Sequence field_name.sequence_tag
    (ap (has_name_or_none key.ReferenceName)
    (named_first (codes "text:name") name key.TextName (unless_empty (codes "text:ref-name") refname ++ format_attribute format ∷ []) (at_unless key.ReferenceName refname (at key.NumberFormat (format_text format) ∷ []))
    field_name.name_key (named_unless (codes "text:ref-name") refname key.ReferenceName (format_attribute format ∷ []) (at key.NumberFormat (format_text format) ∷ []) field_name.ref_name_key
    (named_first (codes "style:num-format") (format_text format) key.NumberFormat [] [] field_name.format_key refl)))
    ∙ refname_stands name refname (format_text format) is.1)
field_stands (fields.VarSet name value) is =
    one_stands is_content (codes "text:variable-set") (attribute (codes "text:name") name ∷ []) (characters value) tag.VariableSet field_name.variable_set_tag (ap (list_all (λ (one : Standing). one.content)) (stood_characters value))
field_stands (fields.VarGet name) is = one_stands is_content (codes "text:variable-get") _ [] tag.VariableGet field_name.variable_get_tag refl
field_stands (fields.Chapter display level) is = one_stands is_content (codes "text:chapter") _ [] tag.Chapter field_name.chapter_tag refl
field_stands (fields.PageNumber select adjust format) is = one_stands is_content (codes "text:page-number") _ [] tag.PageNumber field_name.page_number_tag refl
field_stands (fields.PageCount format) is = one_stands is_content (codes "text:page-count") _ [] tag.PageCount field_name.page_count_tag refl
field_stands (fields.BookRef name form) is = one_stands is_content (codes "text:bookmark-ref") _ [] tag.BookmarkReference field_name.bookmark_ref_tag refl
field_stands (fields.SeqRef name form) is = one_stands is_content (codes "text:sequence-ref") _ [] tag.SequenceReference field_name.sequence_ref_tag refl
field_stands (fields.NoteRef name class form) is = one_stands is_content (codes "text:note-ref") _ [] tag.NoteReference field_name.note_ref_tag refl

spaces_stand : (count : ℕ) → IsContent (spaces_element count)
spaces_stand zero = one_stands is_content (codes "text:s") _ [] tag.Spaces item_name.spaces_tag refl
spaces_stand (suc zero) = one_stands is_content (codes "text:s") _ [] tag.Spaces item_name.spaces_tag refl
spaces_stand (suc (suc count)) = one_stands is_content (codes "text:s") _ [] tag.Spaces item_name.spaces_tag refl

-- nodes that still are to stand in spans
abbrev AreIn : List Spanned → Type 0
AreIn nodes = Each (λ node. IsContent node.node) nodes

abbrev AreRuns : List Run → Type 0
AreRuns runs = Each (λ run. AreIn run.inside) runs

front_stands : (node : Spanned) (runs : List Run) → IsContent node.node → AreRuns runs → AreRuns (in_front_of node runs)
front_stands node [] one more = ((one, tt), tt)
front_stands node (run ∷ runs) one more = by_test (is_same_span (outermost_of node.spans) run.outermost) where
  by_test : (same : Bool) → AreRuns (cond same ((record { outermost = run.outermost; inside = (record { spans = within node.spans; node = node.node }) ∷ run.inside }) ∷ runs)
      ((record { outermost = outermost_of node.spans; inside = (record { spans = within node.spans; node = node.node }) ∷ [] }) ∷ run ∷ runs))
  by_test true = ((one, more.0), more.1)
  by_test false = ((one, tt), more)

runs_stand : (nodes : List Spanned) → AreIn nodes → AreRuns (runs_of nodes)
runs_stand [] each = tt
runs_stand (node ∷ nodes) each = front_stands node (runs_of nodes) each.0 (runs_stand nodes each.1)

bare_stand : (nodes : List Spanned) → AreIn nodes → AreContent (map (λ (node : Spanned). node.node) nodes)
bare_stand nodes each = each_stand is_content (λ (node : Spanned). node.node) nodes each

module _ (inner : List Spanned → List (Node Elem)) (inner_stands : (nodes : List Spanned) → AreIn nodes → AreContent (inner nodes)) where
  run_stands : (outermost : Option (List ℕ)) (inside : List Spanned) → AreIn inside → AreContent (of_run inner (record { outermost = outermost; inside = inside }))
  run_stands None inside each = bare_stand inside each
  run_stands (Some name) inside each = one_stands is_content (codes "text:span") _ (inner inside) tag.Span span_tag (inner_stands inside each)

  all_runs_stand : (runs : List Run) → AreRuns runs → AreContent (flat_map (of_run inner) runs)
  all_runs_stand [] each = refl
  all_runs_stand (run ∷ runs) each = both_stand is_content (of_run inner run) (flat_map (of_run inner) runs) (run_stands run.outermost run.inside each.0) (all_runs_stand runs each.1)

spans_stand : (depth : ℕ) (nodes : List Spanned) → AreIn nodes → AreContent (in_spans depth nodes)
spans_stand zero nodes each = bare_stand nodes each
spans_stand (suc depth) nodes each = all_runs_stand (in_spans depth) (spans_stand depth) (runs_of nodes) (runs_stand nodes each)

-- the content of a paragraph, where what holds of each item has the name that it needs, and its note is in place
module _ (note_node : Note → Node Elem) (Fine : Item → Type 0) (of_item : (item : Item) → Fine item → IsContent (what_node note_node (what_of item))) where
  abbrev IsFine : Piece → Type 0
  IsFine (As item) = Fine item
  IsFine (Spaces spans count) = Unit {0}

  fine_behind : (spans : List (List ℕ)) (pieces : List Piece) → Each IsFine pieces → Each IsFine (behind_space spans pieces)
  fine_behind spans [] each = (tt, tt)
  fine_behind spans (As item ∷ pieces) each = (tt, each)
  fine_behind spans (Spaces others count ∷ pieces) each = by_test (pointwise bytes_eq spans others) where
    by_test : (b : Bool) → Each IsFine (cond b (Spaces spans (count + 1) ∷ pieces) (Spaces spans 1 ∷ Spaces others count ∷ pieces))
    by_test true = (tt, each.1)
    by_test false = (tt, each)

  -- the pieces of items of which it holds
  fine_pieces : (before items : List Item) → Each Fine items → Each IsFine (pieces_of (placed before items))
  fine_pieces before [] each = tt
  fine_pieces before (item ∷ after) each =
      by_test (is_space item && not (stands_for_itself (record { before = before; item = item; after = after }))) (fine_pieces (item ∷ before) after each.1) where
        more : List Piece
        more = pieces_of (placed (item ∷ before) after)

        by_test : (b : Bool) → Each IsFine more → Each IsFine (cond b (behind_space (out-Item item).spans more) (As item ∷ more))
        by_test true fine = fine_behind (out-Item item).spans more fine
        by_test false fine = (each.0, fine)

  piece_stands : (piece : Piece) → IsFine piece → IsContent (spanned note_node piece).node
  piece_stands (As item) is = of_item item is
  piece_stands (Spaces spans count) is = spaces_stand count

  pieces_stand : (pieces : List Piece) → Each IsFine pieces → AreIn (map (spanned note_node) pieces)
  pieces_stand [] each = tt
  pieces_stand (piece ∷ pieces) each = (piece_stands piece each.0, pieces_stand pieces each.1)

  pub content_stand : (items : List Item) → Each Fine items → AreContent (content note_node items)
  content_stand items each =
      let nodes : List Spanned = map (spanned note_node) (pieces_of (placed [] items)) in
      spans_stand (span_depth nodes) nodes (pieces_stand (pieces_of (placed [] items)) (fine_pieces [] items each))

-- what an item is
pub what_stands : (note_node : Note → Node Elem) (what : What-F What Item Note Par) → IsNamedWhat what → ((note : Note) → what ≡ What-F.Note note → IsContent (note_node note)) → IsContent (what_node note_node what)
what_stands note_node (What-F.Char c) is note = refl
what_stands note_node What-F.Tab is note = one_stands is_content (codes "text:tab") [] [] tag.Tab item_name.tab_tag refl
what_stands note_node What-F.Break is note = one_stands is_content (codes "text:line-break") [] [] tag.LineBreak item_name.break_tag refl
what_stands note_node (What-F.Field field) is note = field_stands field is
what_stands note_node (What-F.Note own) is note = note own refl
what_stands note_node (What-F.Mark mark) is note = mark_stands mark is
