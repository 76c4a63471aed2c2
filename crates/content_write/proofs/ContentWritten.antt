-- The content of a paragraph is what is left to write before its first item.
use Rattle.std.proofs.Common.{◌≡◌, ◌+◌, ◌&&◌, ◌==◌, ℕ, Bool, true, false, List, [], ◌∷◌, ◌++◌, map, refl, ap, sym, ◌∙◌, subst, append_assoc, zero, suc, arith}
use Rattle.std.specs.Prelude.{if◌then◌else◌, not}
use Rattle.std.specs.Str.{bytes_eq}
use Rattle.std.specs.Cmp.Lexicographic.{pointwise}
use Rattle.markup_nodes.specs.declared.tree.Elem.{Elem}
use Rattle.markup_nodes.specs.Node.{Node}
use Rattle.doc_model.specs.declared.paragraph.Item.{Item, out-Item}
use Rattle.doc_model.specs.declared.paragraph.Note.{Note}
use Rattle.doc_model.specs.declared.paragraph.Par.{Par}
use Rattle.doc_model.specs.declared.paragraph.What.{What}
use Rattle.doc_model.specs.declared.paragraph.What.TheOpen.{What-F}
use Rattle.doc_model.specs.Parts.{what_of, is_mark}
use Rattle.spelling_model.specs.Spelling.{Placed, placed, is_space, is_word, is_there, without_marks, stands_for_itself, Piece, behind_space, pieces_of}
use Rattle.spelling_model.specs.Spelling.Piece.{As, Spaces}
use Rattle.tree_text.proofs.ConstructsWritten.{bytes_same}
use Rattle.tree_text.specs.Writing.{child_text, content_text}
use Rattle.written_model.specs.Content.{spanned, what_node, content, in_spans, span_depth}
use Rattle.content_write.specs.Rest.{tags, spaces_text, must_wait, is_word_behind, count_behind, tags_before, rest_text}
use Rattle.content_write.proofs.TextLemmas.{names_are, names_same}
use Rattle.content_write.proofs.SpansWritten.{walked, nodes_written, in_spans_there}

-- no tag stands between what stands in the same spans
tags_same : (spans : List (List ℕ)) → tags spans spans ≡ []
tags_same [] = refl
tags_same (name ∷ names) = rw (bytes_same name) (tags_same names)

-- pieces behind so many spaces that wait under these spans
abbrev waiting_before : List (List ℕ) → ℕ → List Piece → List Piece
waiting_before spans waiting (Spaces others count ∷ pieces) =
    if pointwise bytes_eq spans others then Spaces spans (waiting + count) ∷ pieces else Spaces spans waiting ∷ Spaces others count ∷ pieces
waiting_before spans waiting pieces = Spaces spans waiting ∷ pieces

-- one space that waits
one_waits : (spans : List (List ℕ)) (pieces : List Piece) → behind_space spans pieces ≡ waiting_before spans 1 pieces
one_waits spans [] = refl
one_waits spans (As item ∷ pieces) = refl
one_waits spans (Spaces others count ∷ pieces) = ap (λ (n : ℕ). if pointwise bytes_eq spans others then Spaces spans n ∷ pieces else Spaces spans 1 ∷ Spaces others count ∷ pieces) (omega arith)

-- so many spaces wait behind others in the same spans
more_wait : (spans : List (List ℕ)) (waiting : ℕ) (pieces : List Piece) → waiting_before spans waiting (waiting_before spans 1 pieces) ≡ waiting_before spans (waiting + 1) pieces
more_wait spans waiting [] = rw (names_same spans) refl
more_wait spans waiting (As item ∷ pieces) = rw (names_same spans) refl
more_wait spans waiting (Spaces others count ∷ pieces) = by_test (pointwise bytes_eq spans others) refl where
  by_test : (same : Bool) → pointwise bytes_eq spans others ≡ same → waiting_before spans waiting (waiting_before spans 1 (Spaces others count ∷ pieces)) ≡ waiting_before spans (waiting + 1) (Spaces others count ∷ pieces)
  by_test true e = rw (e, names_same spans) (ap (λ (n : ℕ). Spaces spans n ∷ pieces) (omega arith))
  by_test false e = rw (e, names_same spans) refl

-- in other spans
others_wait : (spans others : List (List ℕ)) (waiting : ℕ) (pieces : List Piece) → pointwise bytes_eq spans others ≡ false
    → waiting_before spans waiting (waiting_before others 1 pieces) ≡ Spaces spans waiting ∷ waiting_before others 1 pieces
others_wait spans others waiting [] e = rw e refl
others_wait spans others waiting (As item ∷ pieces) e = rw e refl
others_wait spans others waiting (Spaces names count ∷ pieces) e = by_test (pointwise bytes_eq others names) where
  by_test : (same : Bool) → waiting_before spans waiting (if same then Spaces others (1 + count) ∷ pieces else Spaces others 1 ∷ Spaces names count ∷ pieces)
      ≡ Spaces spans waiting ∷ (if same then Spaces others (1 + count) ∷ pieces else Spaces others 1 ∷ Spaces names count ∷ pieces)
  by_test true = rw e refl
  by_test false = rw e refl

-- the last item, marks apart, behind one more item
word_behind : (after_word : Bool) (item : Item) (before : List Item) → is_word (without_marks before) ≡ after_word → is_word (without_marks (item ∷ before)) ≡ is_word_behind after_word item
word_behind after_word item before e = by_mark (is_mark item) where
  by_mark : (mark : Bool) → is_word (if not mark then item ∷ without_marks before else without_marks before) ≡ (if mark then after_word else not (is_space item))
  by_mark true = e
  by_mark false = refl

-- whether something is a space, and whether it is a mark, as the definitions have them
abbrev space_what : What-F What Item Note Par → Bool
space_what (What-F.Char c) = c == 0x20
space_what _ = false

abbrev mark_what : What-F What Item Note Par → Bool
mark_what (What-F.Mark mark) = true
mark_what _ = false

space_is_no_word : (after_word : Bool) (item : Item) → is_space item ≡ true → is_word_behind after_word item ≡ false
space_is_no_word after_word item e = by_what (what_of item) e where
  by_what : (what : What-F What Item Note Par) → space_what what ≡ true → (if mark_what what then after_word else not (space_what what)) ≡ false
  by_what (What-F.Char c) e = ap not e
  by_what What-F.Tab e = cc
  by_what What-F.Break e = cc
  by_what (What-F.Field field) e = cc
  by_what (What-F.Note note) e = cc
  by_what (What-F.Mark mark) e = cc

space_of : (a b : Bool) → (a && b) ≡ true → a ≡ true
space_of true b e = refl
space_of false b e = e

some_there : (item : Item) (items : List Item) → is_there (pieces_of (placed [] (item ∷ items))) ≡ true
some_there item items = by_need (is_space item && not (stands_for_itself (record { before = []; item = item; after = items }))) (pieces_of (placed (item ∷ []) items)) where
  by_need : (need : Bool) (more : List Piece) → is_there (if need then behind_space (out-Item item).spans more else As item ∷ more) ≡ true
  by_need false more = refl
  by_need true [] = refl
  by_need true (As other ∷ more) = refl
  by_need true (Spaces names count ∷ more) = by_test (pointwise bytes_eq (out-Item item).spans names) where
    by_test : (same : Bool) → is_there (if same then Spaces (out-Item item).spans (count + 1) ∷ more else Spaces (out-Item item).spans 1 ∷ Spaces names count ∷ more) ≡ true
    by_test true = refl
    by_test false = refl

module _ (note_node : Note → Node Elem) where
  -- pieces from front to back, and pieces that so many spaces wait before, in the spans that are open
  abbrev pieces_text : List (List ℕ) → List Piece → List ℕ
  pieces_text around pieces = walked around (map (spanned note_node) pieces)

  abbrev waiting_text : List (List ℕ) → ℕ → List Piece → List ℕ
  waiting_text around zero pieces = pieces_text around pieces
  waiting_text around (suc more) pieces = pieces_text around (waiting_before around (suc more) pieces)

  -- spaces in the spans that are open, and behind them what doesn't join them
  spaces_first : (around : List (List ℕ)) (more : ℕ) (pieces : List Piece) → pieces_text around (Spaces around (suc more) ∷ pieces) ≡ spaces_text (suc more) ++ pieces_text around pieces
  spaces_first around more pieces = rw (tags_same around) refl

  -- an item behind spaces that wait
  item_next : (around : List (List ℕ)) (waiting : ℕ) (item : Item) (pieces : List Piece)
      → waiting_text around waiting (As item ∷ pieces)
      ≡ (spaces_text waiting ++ tags around (out-Item item).spans) ++ (child_text (what_node note_node (what_of item)) ++ pieces_text (out-Item item).spans pieces)
  item_next around zero item pieces = refl
  item_next around (suc more) item pieces =
      spaces_first around more (As item ∷ pieces)
      ∙ sym (append_assoc (spaces_text (suc more)) (tags around (out-Item item).spans) (child_text (what_node note_node (what_of item)) ++ pieces_text (out-Item item).spans pieces))

  -- spaces that begin in other spans
  spaces_begin : (around spans : List (List ℕ)) (more : ℕ) (pieces : List Piece) → pieces_text around (Spaces spans (suc more) ∷ pieces) ≡ tags around spans ++ pieces_text spans (Spaces spans (suc more) ∷ pieces)
  spaces_begin around spans more pieces = rw (tags_same spans) refl

  one_begins : (around spans : List (List ℕ)) (pieces : List Piece) → pieces_text around (waiting_before spans 1 pieces) ≡ tags around spans ++ pieces_text spans (waiting_before spans 1 pieces)
  one_begins around spans [] = spaces_begin around spans 0 []
  one_begins around spans (As item ∷ pieces) = spaces_begin around spans 0 (As item ∷ pieces)
  one_begins around spans (Spaces others count ∷ pieces) = by_test (pointwise bytes_eq spans others) where
    by_test : (same : Bool) → pieces_text around (if same then Spaces spans (1 + count) ∷ pieces else Spaces spans 1 ∷ Spaces others count ∷ pieces)
        ≡ tags around spans ++ pieces_text spans (if same then Spaces spans (1 + count) ∷ pieces else Spaces spans 1 ∷ Spaces others count ∷ pieces)
    by_test true = rw (tags_same spans) refl
    by_test false = spaces_begin around spans 0 (Spaces others count ∷ pieces)

  -- one more space behind spaces that wait
  space_next : (around : List (List ℕ)) (waiting : ℕ) (spans : List (List ℕ)) (pieces : List Piece)
      → waiting_text around waiting (behind_space spans pieces) ≡ tags_before around waiting spans ++ waiting_text spans (count_behind around waiting spans) pieces
  space_next around zero spans pieces = ap (pieces_text around) (one_waits spans pieces) ∙ one_begins around spans pieces
  space_next around (suc more) spans pieces =
      ap (λ (ps : List Piece). pieces_text around (waiting_before around (suc more) ps)) (one_waits spans pieces) ∙ by_test (pointwise bytes_eq around spans) refl where
        joining : around ≡ spans → pieces_text around (waiting_before around (suc more) (waiting_before spans 1 pieces)) ≡ waiting_text spans (suc more + 1) pieces
        joining same =
            let next : suc more + 1 ≡ suc (suc more) = omega arith in
            ap (λ (names : List (List ℕ)). pieces_text names (waiting_before names (suc more) (waiting_before spans 1 pieces))) same
            ∙ (ap (pieces_text spans) (more_wait spans (suc more) pieces)
            ∙ subst (λ (n : ℕ). pieces_text spans (waiting_before spans n pieces) ≡ waiting_text spans n pieces) (sym next) refl)

        by_test : (same : Bool) → pointwise bytes_eq around spans ≡ same
            → pieces_text around (waiting_before around (suc more) (waiting_before spans 1 pieces)) ≡ tags_before around (suc more) spans ++ waiting_text spans (count_behind around (suc more) spans) pieces
        by_test true e = rw e (joining (names_are around spans e))
        by_test false e =
            rw e (ap (pieces_text around) (others_wait around spans (suc more) pieces e)
            ∙ (spaces_first around more (waiting_before spans 1 pieces)
            ∙ (ap (λ (t : List ℕ). spaces_text (suc more) ++ t) (one_begins around spans pieces)
            ∙ sym (append_assoc (spaces_text (suc more)) (tags around spans) (pieces_text spans (waiting_before spans 1 pieces))))))

  -- behind the last item
  none_left : (around : List (List ℕ)) (waiting : ℕ) → spaces_text waiting ++ tags around [] ≡ waiting_text around waiting []
  none_left around zero = refl
  none_left around (suc more) = sym (spaces_first around more [])

  -- what is left to write is what is left of the pieces
  left_written : (around : List (List ℕ)) (waiting : ℕ) (after_word : Bool) (before items : List Item) → is_word (without_marks before) ≡ after_word
      → rest_text note_node around waiting after_word items ≡ waiting_text around waiting (pieces_of (placed before items))
  left_written around waiting after_word before [] e = none_left around waiting
  left_written around waiting after_word before (item ∷ items) e =
      by_need (left_written (out-Item item).spans (count_behind around waiting (out-Item item).spans) false (item ∷ before) items)
      (left_written (out-Item item).spans 0 (is_word_behind after_word item) (item ∷ before) items (word_behind after_word item before e))
      (must_wait after_word item items) refl where
        spans : List (List ℕ)
        spans = (out-Item item).spans

        place : Placed
        place = record { before = before; item = item; after = items }

        more : List Piece
        more = pieces_of (placed (item ∷ before) items)

        stands : stands_for_itself place ≡ after_word && is_there (without_marks items)
        stands = ap (λ (b : Bool). b && is_there (without_marks items)) e

        by_need : (is_word (without_marks (item ∷ before)) ≡ false → rest_text note_node spans (count_behind around waiting spans) false items ≡ waiting_text spans (count_behind around waiting spans) more)
            → rest_text note_node spans 0 (is_word_behind after_word item) items ≡ pieces_text spans more
            → (need : Bool) → must_wait after_word item items ≡ need
            → rest_text note_node around waiting after_word (item ∷ items) ≡ waiting_text around waiting (pieces_of (placed before (item ∷ items)))
        by_need waits stays true needed =
            let here : pieces_of (placed before (item ∷ items)) ≡ behind_space spans more = rw (stands, needed) refl in
            let last : is_word (without_marks (item ∷ before)) ≡ false = word_behind after_word item before e ∙ space_is_no_word after_word item (space_of (is_space item) (not (after_word && is_there (without_marks items))) needed) in
            let written : rest_text note_node around waiting after_word (item ∷ items) ≡ tags_before around waiting spans ++ rest_text note_node spans (count_behind around waiting spans) false items = rw needed refl in
            written
            ∙ (ap (λ (t : List ℕ). tags_before around waiting spans ++ t) (waits last) ∙ (sym (space_next around waiting spans more) ∙ ap (waiting_text around waiting) (sym here)))
        by_need waits stays false needless =
            let here : pieces_of (placed before (item ∷ items)) ≡ As item ∷ more = rw (stands, needless) refl in
            let text = child_text (what_node note_node (what_of item)) in
            let written : rest_text note_node around waiting after_word (item ∷ items) ≡ (spaces_text waiting ++ tags around spans) ++ (text ++ rest_text note_node spans 0 (is_word_behind after_word item) items) = rw needless refl in
            written
            ∙ (ap (λ (t : List ℕ). (spaces_text waiting ++ tags around spans) ++ (text ++ t)) stays ∙ (sym (item_next around waiting item more) ∙ ap (waiting_text around waiting) (sym here)))

  pub rest_written : (items : List Item) → rest_text note_node [] 0 false items ≡ content_text (content note_node items)
  rest_written items = left_written [] 0 false [] items refl ∙ sym (nodes_written (map (spanned note_node) (pieces_of (placed [] items))))

  -- the content of something is something
  pieces_there : (pieces : List Piece) → is_there pieces ≡ true → is_there (in_spans (span_depth (map (spanned note_node) pieces)) (map (spanned note_node) pieces)) ≡ true
  pieces_there [] e = cc
  pieces_there (piece ∷ pieces) e = in_spans_there (span_depth (map (spanned note_node) (piece ∷ pieces))) (spanned note_node piece) (map (spanned note_node) pieces)

  pub content_there : (item : Item) (items : List Item) → is_there (content note_node (item ∷ items)) ≡ true
  content_there item items = pieces_there (pieces_of (placed [] (item ∷ items))) (some_there item items)
