-- The content of a paragraph of a header or footer for who writes it from front to back.
use Rattle.std.proofs.Common.{◌≡◌, ℕ, ◌+◌, ◌<◌, Bool, true, false, List, [], ◌∷◌, ◌++◌, refl, ap, sym, ◌∙◌, arith, zero, suc, map}
use Rattle.std.specs.Prelude.{not, ◌&&◌, ◌==◌}
use Rattle.std.specs.List.{AllByRecursion as Each, flat_map}
use Rattle.std.specs.Str.{bytes_eq}
use Rattle.std.specs.Cmp.Lexicographic.{pointwise}
use Rattle.std.proofs.lemmas.List.{append-nil}
use Rattle.doc_model.specs.declared.paragraph.Item.{Item, out-Item}
use Rattle.doc_model.specs.declared.paragraph.Note.{Note}
use Rattle.doc_model.specs.declared.paragraph.Par.{Par}
use Rattle.doc_model.specs.declared.paragraph.What.{What, out-What}
use Rattle.doc_model.specs.declared.paragraph.What.TheOpen.{What-F}
use Rattle.spelling_model.specs.Spelling.{is_space, is_there, is_word, without_marks, Placed, placed, stands_for_itself, Piece, behind_space, pieces_of}
use Rattle.spelling_model.specs.Spelling.Piece.{As, Spaces}
use Rattle.tree_text.specs.Writing.{child_text, content_text}
use Rattle.written_model.specs.Content.{Spanned, spanned, piece_node, spaces_element, span_depth, in_spans, bare_items, head_content, what_node}
use Rattle.head_write.specs.Items.{is_blank, is_marking, has_other, no_note, what_text, spaces_text, waits, word_behind, text_behind}
use Rattle.sheet_write.proofs.ThereLemmas.{there-map}
use Rattle.head_write.proofs.ItemLemmas.{bare, bare_what, bare_spans, bare_space, bare_mark, bare_others}

-- the two tests by cases of what this is
abbrev blank_of : What-F What Item Note Par → Bool
blank_of (What-F.Char c) = c == 0x20
blank_of _ = false

abbrev marking_of : What-F What Item Note Par → Bool
marking_of (What-F.Mark mark) = true
marking_of _ = false

-- a piece in no spans: an element for spaces stands for one at least
abbrev IsBare : Piece → Type 0
IsBare (As item) = (out-Item item).spans ≡ []
IsBare (Spaces spans count) = (spans ≡ []) × (0 < count)

-- the text of pieces in no spans
abbrev piece_text : Piece → List ℕ
piece_text piece = child_text (piece_node no_note piece)

bare_behind : (pieces : List Piece) → Each IsBare pieces → Each IsBare (behind_space [] pieces)
bare_behind [] each = ((refl, omega arith), tt)
bare_behind (As item ∷ pieces) each = ((refl, omega arith), each)
bare_behind (Spaces spans count ∷ pieces) each = rw each.0.0 ((refl, omega (arith, each.0.1)), each.1)

bare_behind_none : (spans : List (List ℕ)) → spans ≡ [] → (pieces : List Piece) → Each IsBare pieces → Each IsBare (behind_space spans pieces)
bare_behind_none spans none pieces each = rw none (bare_behind pieces each)

bare_pieces : (before : List Item) (whats : List What) → Each IsBare (pieces_of (placed before (bare_items whats)))
bare_pieces before [] = tt
bare_pieces before (what ∷ whats) = by_need (bare_pieces (bare what ∷ before) whats) (is_space (bare what) && not (stands_for_itself place)) refl where
  place : Placed
  place = record { before = before; item = bare what; after = bare_items whats }

  by_need : Each IsBare (pieces_of (placed (bare what ∷ before) (bare_items whats))) → (need : Bool) → (is_space (bare what) && not (stands_for_itself place)) ≡ need → Each IsBare (pieces_of (placed before (bare_items (what ∷ whats))))
  by_need each true e = rw e (bare_behind_none (out-Item (bare what)).spans (bare_spans what) (pieces_of (placed (bare what ∷ before) (bare_items whats))) each)
  by_need each false e = rw e (bare_spans what, each)

-- how many spaces stand in the element that begins some pieces
abbrev front : List Piece → ℕ
front (Spaces spans count ∷ pieces) = count
front pieces = 0

-- what stands behind that element
abbrev behind : List Piece → List ℕ
behind (Spaces spans count ∷ pieces) = flat_map piece_text pieces
behind pieces = flat_map piece_text pieces

spaces_are : (count : ℕ) → 0 < count → child_text (spaces_element count) ≡ spaces_text count
spaces_are zero h = absurd (omega (arith, h))
spaces_are (suc more) h = refl

front_behind : (pieces : List Piece) → Each IsBare pieces → flat_map piece_text pieces ≡ spaces_text (front pieces) ++ behind pieces
front_behind [] each = refl
front_behind (As item ∷ pieces) each = refl
front_behind (Spaces spans count ∷ pieces) each = ap (λ (t : List ℕ). t ++ flat_map piece_text pieces) (spaces_are count each.0.1)

front-behind_space : (pieces : List Piece) → Each IsBare pieces → front (behind_space [] pieces) ≡ front pieces + 1
front-behind_space [] each = refl
front-behind_space (As item ∷ pieces) each = refl
front-behind_space (Spaces spans count ∷ pieces) each = rw each.0.0 refl

behind-behind_space : (pieces : List Piece) → Each IsBare pieces → behind (behind_space [] pieces) ≡ behind pieces
behind-behind_space [] each = refl
behind-behind_space (As item ∷ pieces) each = refl
behind-behind_space (Spaces spans count ∷ pieces) each = rw each.0.0 refl

space_of : (a b : Bool) → (a && b) ≡ true → a ≡ true
space_of true b e = refl
space_of false b e = e

blank_no_mark : (what : What) → is_blank what ≡ true → is_marking what ≡ false
blank_no_mark what e = by_what (out-What what) e where
  by_what : (w : What-F What Item Note Par) → blank_of w ≡ true → marking_of w ≡ false
  by_what (What-F.Char c) h = refl
  by_what What-F.Tab h = cc
  by_what What-F.Break h = cc
  by_what (What-F.Field field) h = cc
  by_what (What-F.Note note) h = cc
  by_what (What-F.Mark mark) h = cc

what_of_bare : (what : What) → piece_text (As (bare what)) ≡ what_text what
what_of_bare what = ap (λ (w : What-F What Item Note Par). child_text (what_node no_note w)) (bare_what what)

word_of : (before : List Item) (after_word : Bool) (what : What) → is_word (without_marks before) ≡ after_word → is_word (without_marks (bare what ∷ before)) ≡ word_behind after_word what
word_of before after_word what e = by_mark (is_marking what) refl where
  by_mark : (b : Bool) → is_marking what ≡ b → is_word (without_marks (bare what ∷ before)) ≡ word_behind after_word what
  by_mark true m = rw (bare_mark what, m) e
  by_mark false m = rw (bare_mark what, m) (ap not (bare_space what))

text_pieces : (waiting : ℕ) (after_word : Bool) (before : List Item) (whats : List What) → is_word (without_marks before) ≡ after_word
    → text_behind waiting after_word whats ≡ spaces_text (waiting + front (pieces_of (placed before (bare_items whats)))) ++ behind (pieces_of (placed before (bare_items whats)))
text_pieces waiting after_word before [] e = sym (ap (λ (n : ℕ). spaces_text n ++ []) (omega arith) ∙ append-nil (spaces_text waiting))
text_pieces waiting after_word before (what ∷ whats) e =
    by_need (text_pieces (waiting + 1) false (bare what ∷ before) whats) (text_pieces 0 (word_behind after_word what) (bare what ∷ before) whats)
    (waits after_word what whats) refl where
      place : Placed
      place = record { before = before; item = bare what; after = bare_items whats }

      more : List Piece
      more = pieces_of (placed (bare what ∷ before) (bare_items whats))

      needs : (is_space (bare what) && not (stands_for_itself place)) ≡ waits after_word what whats
      needs = rw (bare_space what, e, bare_others whats) refl

      by_need : (is_word (without_marks (bare what ∷ before)) ≡ false → text_behind (waiting + 1) false whats ≡ spaces_text (waiting + 1 + front more) ++ behind more)
          → (is_word (without_marks (bare what ∷ before)) ≡ word_behind after_word what → text_behind 0 (word_behind after_word what) whats ≡ spaces_text (0 + front more) ++ behind more)
          → (need : Bool) → waits after_word what whats ≡ need
          → text_behind waiting after_word (what ∷ whats) ≡ spaces_text (waiting + front (pieces_of (placed before (bare_items (what ∷ whats))))) ++ behind (pieces_of (placed before (bare_items (what ∷ whats))))
      by_need waiting_on staying true needed =
          let joined : pieces_of (placed before (bare_items (what ∷ whats))) ≡ behind_space [] more = rw (needs, needed) (ap (λ (spans : List (List ℕ)). behind_space spans more) (bare_spans what)) in
          let here : text_behind waiting after_word (what ∷ whats) ≡ text_behind (waiting + 1) false whats = rw needed refl in
          let blank : is_blank what ≡ true = space_of (is_blank what) (not (after_word && has_other whats)) needed in
          let after : is_word (without_marks (bare what ∷ before)) ≡ false = word_of before after_word what e ∙ rw (blank_no_mark what blank, blank) refl in
          here ∙ waiting_on after
          ∙ rw (joined, front-behind_space more (bare_pieces (bare what ∷ before) whats), behind-behind_space more (bare_pieces (bare what ∷ before) whats))
          (ap (λ (n : ℕ). spaces_text n ++ behind more) (omega arith))
      by_need waiting_on staying false needless =
          let apart : pieces_of (placed before (bare_items (what ∷ whats))) ≡ As (bare what) ∷ more = rw (needs, needless) refl in
          let here : text_behind waiting after_word (what ∷ whats) ≡ spaces_text waiting ++ (what_text what ++ text_behind 0 (word_behind after_word what) whats) = rw needless refl in
          let rest : text_behind 0 (word_behind after_word what) whats ≡ flat_map piece_text more =
          staying (word_of before after_word what e) ∙ ap (λ (n : ℕ). spaces_text n ++ behind more) (omega arith) ∙ sym (front_behind more (bare_pieces (bare what ∷ before) whats)) in
          let none : waiting ≡ waiting + 0 = omega arith in
          here ∙ ap (λ (text : List ℕ). spaces_text waiting ++ (what_text what ++ text)) rest
          ∙ ap (λ (text : List ℕ). spaces_text waiting ++ (text ++ flat_map piece_text more)) (sym (what_of_bare what))
          ∙ rw apart (ap (λ (n : ℕ). spaces_text n ++ (piece_text (As (bare what)) ++ flat_map piece_text more)) none)

-- the pieces as nodes
no_depth : (pieces : List Piece) → Each IsBare pieces → span_depth (map (spanned no_note) pieces) ≡ 0
no_depth [] each = refl
no_depth (As item ∷ pieces) each = rw each.0 (no_depth pieces each.1)
no_depth (Spaces spans count ∷ pieces) each = rw each.0.0 (no_depth pieces each.1)

nodes_are : (pieces : List Piece) → content_text (map (λ node. node.node) (map (spanned no_note) pieces)) ≡ flat_map piece_text pieces
nodes_are [] = refl
nodes_are (As item ∷ pieces) = ap (λ (t : List ℕ). piece_text (As item) ++ t) (nodes_are pieces)
nodes_are (Spaces spans count ∷ pieces) = ap (λ (t : List ℕ). piece_text (Spaces spans count) ++ t) (nodes_are pieces)

-- the content of a paragraph of a header or footer
pub content_written : (whats : List What) → text_behind 0 false whats ≡ content_text (head_content whats)
content_written whats =
    let pieces = pieces_of (placed [] (bare_items whats)) in
    let each = bare_pieces [] whats in
    let flat : content_text (head_content whats) ≡ flat_map piece_text pieces =
    ap (λ (depth : ℕ). content_text (in_spans depth (map (spanned no_note) pieces))) (no_depth pieces each) ∙ nodes_are pieces in
    text_pieces 0 false [] whats refl ∙ ap (λ (n : ℕ). spaces_text n ++ behind pieces) (omega arith) ∙ sym (front_behind pieces each) ∙ sym flat

-- a paragraph with an item has content
there-behind : (spans : List (List ℕ)) (pieces : List Piece) → is_there (behind_space spans pieces) ≡ true
there-behind spans [] = refl
there-behind spans (As item ∷ pieces) = refl
there-behind spans (Spaces others count ∷ pieces) = by_test (pointwise bytes_eq spans others) refl where
  by_test : (b : Bool) → pointwise bytes_eq spans others ≡ b → is_there (behind_space spans (Spaces others count ∷ pieces)) ≡ true
  by_test true e = rw e refl
  by_test false e = rw e refl

there-pieces : (whats : List What) → is_there (pieces_of (placed [] (bare_items whats))) ≡ is_there whats
there-pieces [] = refl
there-pieces (what ∷ whats) = by_need (is_space (bare what) && not (stands_for_itself place)) refl where
  place : Placed
  place = record { before = []; item = bare what; after = bare_items whats }

  by_need : (need : Bool) → (is_space (bare what) && not (stands_for_itself place)) ≡ need → is_there (pieces_of (placed [] (bare_items (what ∷ whats)))) ≡ true
  by_need true e = rw e (there-behind (out-Item (bare what)).spans (pieces_of (placed (bare what ∷ []) (bare_items whats))))
  by_need false e = rw e refl

pub there-content : (whats : List What) → is_there (head_content whats) ≡ is_there whats
there-content whats =
    let pieces = pieces_of (placed [] (bare_items whats)) in
    let nodes : List Spanned = map (spanned no_note) pieces in
    ap (λ (depth : ℕ). is_there (in_spans depth nodes)) (no_depth pieces (bare_pieces [] whats))
    ∙ (there-map (λ (node : Spanned). node.node) nodes ∙ (there-map (spanned no_note) pieces ∙ there-pieces whats))
