-- The content of paragraphs: characters, elements for spaces that can't stand for themselves, spans, marks, fields and notes.
use Rattle.std.specs.Prelude.{ℕ, Bool, true, false, List, [], ◌∷◌, map, fold, max, length, codes, decimal, Option, Some, None, zero, suc, if◌then◌else◌}
use Rattle.std.specs.List.{flat_map}
use Rattle.std.specs.Str.{bytes_eq}
use Rattle.markup_nodes.specs.declared.tree.Elem.{Elem}
use Rattle.markup_nodes.specs.Node.{Node, Char}
use Rattle.doc_model.specs.declared.paragraph.Par.{Par}
use Rattle.doc_model.specs.declared.paragraph.Item.{Item, out-Item, roll-Item}
use Rattle.doc_model.specs.declared.paragraph.What.{What}
use Rattle.doc_model.specs.declared.paragraph.What.TheOpen.{What-F}
use Rattle.doc_model.specs.declared.paragraph.Note.{Note}
use Rattle.doc_model.specs.declared.paragraph.Mark.{Mark}
use Rattle.doc_model.specs.declared.paragraph.Mark.TheVariants.{Point, Start, End}
use Rattle.spelling_model.specs.Spelling.{Piece, As, Spaces, pieces_of, placed}
use Rattle.doc_model.specs.Parts.{what_of}
use Rattle.written_model.specs.Elements.{attribute, element, empty_element}
use Rattle.written_model.specs.Fields.{field_element}

-- so many spaces that can't stand for themselves
abbrev pub spaces_element : ℕ → Node Elem
spaces_element (suc zero) = empty_element (codes "text:s") []
spaces_element count = empty_element (codes "text:s") (attribute (codes "text:c") (decimal count) ∷ [])

-- a mark of a bookmark
abbrev pub mark_element : Mark → Node Elem
mark_element (Point name) = empty_element (codes "text:bookmark") (attribute (codes "text:name") name ∷ [])
mark_element (Start name) = empty_element (codes "text:bookmark-start") (attribute (codes "text:name") name ∷ [])
mark_element (End name) = empty_element (codes "text:bookmark-end") (attribute (codes "text:name") name ∷ [])

-- what an item is, as a node, where notes are written so
abbrev pub what_node : (Note → Node Elem) → What-F What Item Note Par → Node Elem
what_node note_node (What-F.Char c) = Char c
what_node note_node What-F.Tab = empty_element (codes "text:tab") []
what_node note_node What-F.Break = empty_element (codes "text:line-break") []
what_node note_node (What-F.Field field) = field_element field
what_node note_node (What-F.Note note) = note_node note
what_node note_node (What-F.Mark mark) = mark_element mark

-- a piece without its spans
abbrev pub piece_node : (Note → Node Elem) → Piece → Node Elem
piece_node note_node (As item) = what_node note_node (what_of item)
piece_node note_node (Spaces spans count) = spaces_element count

-- a node with the names of the spans that it still is to stand in, outermost first
pub record Spanned : Type 0 where
  pub spans : List (List ℕ)
  pub node : Node Elem

-- a piece with its spans
abbrev pub spanned : (Note → Node Elem) → Piece → Spanned
spanned note_node (As item) = record { spans = (out-Item item).spans; node = piece_node note_node (As item) }
spanned note_node (Spaces spans count) = record { spans = spans; node = piece_node note_node (Spaces spans count) }

-- neighbours that stand in the same outermost span, or in none
pub record Run : Type 0 where
  pub outermost : Option (List ℕ)
  pub inside : List Spanned

-- the outermost span of a node
abbrev pub outermost_of : List (List ℕ) → Option (List ℕ)
outermost_of [] = None
outermost_of (name ∷ names) = Some name

-- the spans within the outermost one
abbrev pub within : List (List ℕ) → List (List ℕ)
within [] = []
within (name ∷ names) = names

-- whether two outermost spans are the same
abbrev pub is_same_span : Option (List ℕ) → Option (List ℕ) → Bool
is_same_span None None = true
is_same_span (Some name) (Some other) = bytes_eq name other
is_same_span _ _ = false

-- a node in front of runs: it joins the first where that stands in the same outermost span
abbrev pub in_front_of : Spanned → List Run → List Run
in_front_of node [] = record { outermost = outermost_of node.spans; inside = record { spans = within node.spans; node = node.node } ∷ [] } ∷ []
in_front_of node (run ∷ runs) =
    if is_same_span (outermost_of node.spans) run.outermost
    then record { outermost = run.outermost; inside = record { spans = within node.spans; node = node.node } ∷ run.inside } ∷ runs
    else record { outermost = outermost_of node.spans; inside = record { spans = within node.spans; node = node.node } ∷ [] } ∷ run ∷ runs

-- nodes in runs, as long ones as can be
abbrev pub runs_of : List Spanned → List Run
runs_of [] = []
runs_of (node ∷ nodes) = in_front_of node (runs_of nodes)

-- a span round nodes
abbrev pub span_element : List ℕ → List (Node Elem) → Node Elem
span_element name nodes = element (codes "text:span") (attribute (codes "text:style-name") name ∷ []) nodes

-- a run: in its outermost span what stands within it, where its nodes are put into their spans so
abbrev pub of_run : (List Spanned → List (Node Elem)) → Run → List (Node Elem)
of_run inner run = of_outermost run.outermost where
  of_outermost : Option (List ℕ) → List (Node Elem)
  of_outermost None = map (λ node. node.node) run.inside
  of_outermost (Some name) = span_element name (inner run.inside) ∷ []

-- nodes in their spans, of which at most so many stand within each other: one element stands round neighbours in the same outermost span
abbrev pub in_spans : ℕ → List Spanned → List (Node Elem)
in_spans zero nodes = map (λ node. node.node) nodes
in_spans (suc depth) nodes = flat_map (of_run (in_spans depth)) (runs_of nodes)

-- how many spans stand within each other round some nodes
abbrev pub span_depth : List Spanned → ℕ
span_depth nodes = fold max 0 (map (λ node. length node.spans) nodes)

-- the content of a paragraph with these items, where notes are written so
abbrev pub content : (Note → Node Elem) → List Item → List (Node Elem)
content note_node items = of_pieces (map (spanned note_node) (pieces_of (placed [] items))) where
  of_pieces : List Spanned → List (Node Elem)
  of_pieces nodes = in_spans (span_depth nodes) nodes

-- the items of a paragraph of a header or footer, which stand in no spans
abbrev pub bare_items : List What → List Item
bare_items whats = map (λ what. roll-Item (record { spans = []; what = what })) whats

-- the content of a paragraph of a header or footer, where no note stands
abbrev pub head_content : List What → List (Node Elem)
head_content whats = content (λ note. empty_element (codes "text:note") []) (bare_items whats)
