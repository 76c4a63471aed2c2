-- The items of a header, which stand in no spans, are read as they are in a paragraph.
use Rattle.std.proofs.Common.{◌≡◌, ℕ, ◌+◌, ◌≤◌, false, true, not, ◌&&◌, Bool, cond, List, [], ◌∷◌, map, length, codes, decimal, refl, ap, sym, subst, ◌∙◌, arith, bytes_eq}
use Rattle.std.specs.Cmp.Lexicographic.{pointwise}
use Rattle.std.specs.List.{AllByRecursion as Each}
use Rattle.std.specs.Prelude.{fold, max}
use Rattle.std.proofs.lemmas.List.{length-map}
use Rattle.markup_nodes.specs.declared.tree.Elem.{Elem}
use Rattle.markup_nodes.specs.Node.{Node}
use Rattle.doc_model.specs.declared.field.Field.{Field}
use Rattle.doc_model.specs.declared.field.Field.TheVariants.{Sequence, VarSet, VarGet, Chapter, PageNumber, PageCount, BookRef, SeqRef, NoteRef}
use Rattle.doc_model.specs.declared.paragraph.Item.{Item, out-Item, roll-Item}
use Rattle.doc_model.specs.declared.paragraph.Note.{Note}
use Rattle.doc_model.specs.declared.paragraph.Par.{Par}
use Rattle.doc_model.specs.declared.paragraph.What.{What, out-What}
use Rattle.doc_model.specs.declared.paragraph.What.TheOpen.{What-F}
use Rattle.doc_model.specs.Chars.{IsLegalText}
use Rattle.doc_model.specs.Parts.{what_of}
use Rattle.doc_model.specs.Ranges.{IsPageAdjust}
use Rattle.doc_model.specs.Valid.{IsOfHeader}
use Rattle.load_model.specs.declared.names.Tag.TheVariants as tag
use Rattle.load_model.specs.Blocks.{ReadContent, content_of}
use Rattle.load_model.specs.Headers as head
use Rattle.load_model.specs.Styles.{Names}
use Rattle.written_model.specs.Content.{Spanned, bare_items, content, head_content, in_spans, span_depth, spanned, what_node}
use Rattle.written_model.specs.Elements.{attribute, empty_element}
use Rattle.written_model.specs.Fields.{field_element, format_attribute}
use Rattle.written_model.specs.Values as text
use Rattle.spelling_model.specs.Spelling.{Piece, As, Spaces, behind_space, is_space, pieces_of, placed, stands_for_itself}
use Rattle.back_fields.specs.Fit.{IsFit}
use Rattle.back_fields.specs.Given.{given}
use Rattle.back_fields.proofs.Keys as field_name
use Rattle.back_items.specs.Items.{IsRead, IsReadable, IsReadAs}
use Rattle.back_items.proofs.Keys as named
use Rattle.back_items.proofs.Pieces.{content_back}
use Rattle.back_heads.specs.Heads.{IsAdjusted}
use Rattle.back_heads.proofs.Inside.{head_given}
use Rattle.back_heads.proofs.Same.{IsSame, all_same, bare, element_same, spaces_same}

-- how a note is written in a header, where none stands
abbrev no_note : Note → Node Elem
no_note note = empty_element (codes "text:note") []

-- what stands in headers, one level deep
abbrev IsFieldOf : Field → Type 0
IsFieldOf (PageNumber select adjust format) = Unit {0}
IsFieldOf (PageCount format) = Unit {0}
IsFieldOf (Chapter display level) = (1 ≤ level) × (level ≤ 10)
IsFieldOf _ = ⊥

abbrev IsOf : What-F What Item Note Par → Type 0
IsOf (What-F.Char c) = IsLegalText c
IsOf What-F.Tab = Unit {0}
IsOf What-F.Break = Unit {0}
IsOf (What-F.Field field) = IsFieldOf field
IsOf (What-F.Note note) = ⊥
IsOf (What-F.Mark mark) = ⊥

abbrev IsFieldAdjusted : Field → Type 0
IsFieldAdjusted (PageNumber select adjust format) = IsPageAdjust adjust
IsFieldAdjusted _ = Unit {0}

abbrev AreAdjusted : What-F What Item Note Par → Type 0
AreAdjusted (What-F.Field field) = IsFieldAdjusted field
AreAdjusted _ = Unit {0}

abbrev IsLegalWhat : What-F What Item Note Par → Type 0
IsLegalWhat (What-F.Char c) = IsLegalText c
IsLegalWhat _ = Unit {0}

-- a field of a header is read alike in a paragraph
field_same : (field : Field) → IsFieldOf field → IsSame (field_element field)
field_same (Sequence name refname format) is = absurd is
field_same (VarSet name value) is = absurd is
field_same (VarGet name) is = absurd is
field_same (Chapter display level) is = element_same (codes "text:chapter") (attribute (codes "text:display") (text.chapter_text display) ∷ attribute (codes "text:outline-level") (decimal level) ∷ []) tag.Chapter field_name.chapter_tag (λ names attributes. refl)
field_same (PageNumber select adjust format) is =
    element_same (codes "text:page-number") (attribute (codes "text:select-page") (text.select_text select) ∷ attribute (codes "text:page-adjust") (text.whole_text adjust) ∷ format_attribute format ∷ []) tag.PageNumber field_name.page_number_tag (λ names attributes. refl)
field_same (PageCount format) is = element_same (codes "text:page-count") (format_attribute format ∷ []) tag.PageCount field_name.page_count_tag (λ names attributes. refl)
field_same (BookRef name form) is = absurd is
field_same (SeqRef name form) is = absurd is
field_same (NoteRef name class form) is = absurd is

-- so is whatever stands in headers
what_same : (what : What-F What Item Note Par) → IsOf what → IsSame (what_node no_note what)
what_same (What-F.Char c) is = λ names. refl
what_same What-F.Tab is = element_same (codes "text:tab") [] tag.Tab named.tab_tag (λ names attributes. refl)
what_same What-F.Break is = element_same (codes "text:line-break") [] tag.LineBreak named.break_tag (λ names attributes. refl)
what_same (What-F.Field field) is = field_same field is
what_same (What-F.Note note) is = absurd is
what_same (What-F.Mark mark) is = absurd is

-- a piece that stands in no spans and is read alike
abbrev IsBare : Piece → Type 0
IsBare (As item) = ((out-Item item).spans ≡ []) × IsSame (what_node no_note (what_of item))
IsBare (Spaces spans count) = spans ≡ []

space_bare : (spans : List (List ℕ)) (pieces : List Piece) → spans ≡ [] → Each IsBare pieces → Each IsBare (behind_space spans pieces)
space_bare spans [] is each = (is, tt)
space_bare spans (As item ∷ pieces) is each = (is, each)
space_bare spans (Spaces others count ∷ pieces) is each = by_test (pointwise bytes_eq spans others) where
  by_test : (same : Bool) → Each IsBare (cond same (Spaces spans (count + 1) ∷ pieces) (Spaces spans 1 ∷ Spaces others count ∷ pieces))
  by_test true = (is, each.1)
  by_test false = (is, each)

all_bare : (before : List Item) (whats : List What) → Each IsOfHeader whats → Each IsBare (pieces_of (placed before (bare_items whats)))
all_bare before [] each = tt
all_bare before (what ∷ after) each = by_need (all_bare (one ∷ before) after each.1) (is_space one && not (stands_for_itself (record { before = before; item = one; after = bare_items after }))) where
  one : Item
  one = roll-Item (record { spans = []; what = what })

  by_need : Each IsBare (pieces_of (placed (one ∷ before) (bare_items after))) → (need : Bool)
      → Each IsBare (cond need (behind_space (out-Item one).spans (pieces_of (placed (one ∷ before) (bare_items after)))) (As one ∷ pieces_of (placed (one ∷ before) (bare_items after))))
  by_need more true = space_bare (out-Item one).spans (pieces_of (placed (one ∷ before) (bare_items after))) refl more
  by_need more false = ((refl, what_same (out-What what) each.0), more)

-- a node that is to stand in no spans, and is read alike
record IsBareNode (node : Spanned) : Type 0 where
  alone : node.spans ≡ []
  same : IsSame node.node

piece_bare : (piece : Piece) → IsBare piece → IsBareNode (spanned no_note piece)
piece_bare (As item) is = record { alone = is.0; same = is.1 }
piece_bare (Spaces spans count) is = record { alone = is; same = spaces_same count }

all_nodes : (pieces : List Piece) → Each IsBare pieces → Each IsBareNode (map (spanned no_note) pieces)
all_nodes [] each = tt
all_nodes (piece ∷ pieces) each = (piece_bare piece each.0, all_nodes pieces each.1)

-- nodes in no spans are written one after another
not_deep : (nodes : List Spanned) → Each IsBareNode nodes → fold max 0 (map (λ node. length node.spans) nodes) ≡ 0
not_deep [] each = refl
not_deep (node ∷ nodes) each =
    ap (λ (spans : List (List ℕ)). fold max (max 0 (length spans)) (map (λ one. length one.spans) nodes)) each.0.alone ∙ not_deep nodes each.1

only_nodes : (nodes : List Spanned) → Each IsBareNode nodes → in_spans (span_depth nodes) nodes ≡ map (λ node. node.node) nodes
only_nodes nodes each = ap (λ (depth : ℕ). in_spans depth nodes) (not_deep nodes each)

each_same : (nodes : List Spanned) → Each IsBareNode nodes → Each IsSame (map (λ node. node.node) nodes)
each_same [] each = tt
each_same (node ∷ nodes) each = (each.0.same, each_same nodes each.1)

content_same : (names : Names) (whats : List What) → Each IsOfHeader whats → head.content_of names (map head_given (head_content whats)) ≡ content_of bare (map (given names) (content no_note (bare_items whats)))
content_same names whats each =
    let nodes : List Spanned = map (spanned no_note) (pieces_of (placed [] (bare_items whats))) in
    let are = all_nodes (pieces_of (placed [] (bare_items whats))) (all_bare [] whats each) in
    all_same names (in_spans (span_depth nodes) nodes) (subst (λ (all : List (Node Elem)). Each IsSame all) (sym (only_nodes nodes are)) (each_same nodes are))

-- what stands in headers can be read as items of a paragraph
legal_what : (what : What-F What Item Note Par) → IsOf what → IsLegalWhat what
legal_what (What-F.Char c) is = is
legal_what What-F.Tab is = tt
legal_what What-F.Break is = tt
legal_what (What-F.Field field) is = tt
legal_what (What-F.Note note) is = tt
legal_what (What-F.Mark mark) is = tt

fit_field : (field : Field) → IsFieldOf field → IsFieldAdjusted field → IsFit field
fit_field (Sequence name refname format) is adjusted = absurd is
fit_field (VarSet name value) is adjusted = absurd is
fit_field (VarGet name) is adjusted = absurd is
fit_field (Chapter display level) is adjusted = is
fit_field (PageNumber select adjust format) is adjusted = adjusted
fit_field (PageCount format) is adjusted = tt
fit_field (BookRef name form) is adjusted = absurd is
fit_field (SeqRef name form) is adjusted = absurd is
fit_field (NoteRef name class form) is adjusted = absurd is

module _ (names : Names) where
  what_read : (what : What-F What Item Note Par) → IsOf what → AreAdjusted what → IsRead names false no_note [] what
  what_read (What-F.Char c) is adjusted = tt
  what_read What-F.Tab is adjusted = tt
  what_read What-F.Break is adjusted = tt
  what_read (What-F.Field field) is adjusted = fit_field field is adjusted
  what_read (What-F.Note note) is adjusted = absurd is
  what_read (What-F.Mark mark) is adjusted = absurd is

  item_readable : (what : What) → IsOfHeader what → IsAdjusted what → IsReadable names false no_note (roll-Item (record { spans = []; what = what }))
  item_readable what is adjusted = record { legal = (legal_what (out-What what) is, omega arith); styles = tt; what = what_read (out-What what) is adjusted }

  all_readable : (whats : List What) → Each IsOfHeader whats → Each IsAdjusted whats → Each (IsReadable names false no_note) (bare_items whats)
  all_readable [] each adjusts = tt
  all_readable (what ∷ whats) each adjusts = (item_readable what each.0 adjusts.0, all_readable whats each.1 adjusts.1)

  count_same : (whats : List What) → length (bare_items whats) ≡ length whats
  count_same whats = length-map whats (λ (what : What). roll-Item (record { spans = []; what = what }))

  -- the content of a paragraph of a header is read as its items
  pub items_back : (whats : List What) → Each IsOfHeader whats → Each IsAdjusted whats → length whats ≤ 4294967295 → IsReadAs (head.content_of names (map head_given (head_content whats))) (bare_items whats)
  items_back whats each adjusts few =
      let back = content_back names false no_note (bare_items whats) (all_readable whats each adjusts) (omega (arith, count_same whats)) in
      subst (λ (read : ReadContent). IsReadAs read (bare_items whats)) (sym (content_same names whats each)) back
