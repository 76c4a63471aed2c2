-- What content comes to for who writes it from front to back: how many spaces wait for their element, and whether the item before is a word's.
use Rattle.std.proofs.Common.{◌≡◌, ℕ, ◌+◌, Bool, true, false, List, [], ◌∷◌, ◌++◌, refl, ap, sym, ◌∙◌, arith, zero, suc}
use Rattle.std.specs.Prelude.{if◌then◌else◌, not, ◌&&◌, filter}
use Rattle.std.specs.List.{AllByRecursion as Each, flat_map}
use Rattle.std.proofs.lemmas.List.{append-nil, append_assoc}
use Rattle.doc_model.specs.declared.paragraph.Item.{Item, out-Item}
use Rattle.doc_model.specs.declared.paragraph.Par.{Par}
use Rattle.doc_model.specs.declared.paragraph.Note.{Note}
use Rattle.doc_model.specs.declared.paragraph.What.{What}
use Rattle.doc_model.specs.declared.paragraph.What.TheOpen.{What-F}
use Rattle.doc_model.specs.Parts.{what_of, is_mark}
use Rattle.spelling_model.specs.Spelling.{is_space, item_bytes, is_there, is_word, without_marks, spaces, Placed, placed, stands_for_itself, Piece, behind_space, pieces_of, piece_bytes, content_bytes, IsWrittenItem}
use Rattle.spelling_model.specs.Spelling.Piece.{As, Spaces}

-- whether a space behind a word's item, or not, stands for itself
abbrev pub may_stand : {X : Type 0} → Bool → List X → Bool
may_stand after_word after = after_word && is_there after

-- items behind so many spaces that can't stand for themselves; after_word says that the item before these is there and isn't a space
abbrev pub content : ℕ → Bool → List Item → List ℕ
content waiting after_word [] = spaces waiting
content waiting after_word (item ∷ items) =
    if is_space item && not (may_stand after_word items)
    then content (waiting + 1) false items
    else spaces waiting ++ item_bytes item ++ content 0 (not (is_space item)) items

-- how many spaces stand in the element that begins some pieces
abbrev front : List Piece → ℕ
front (Spaces spans count ∷ pieces) = count
front pieces = 0

-- what stands behind that element
abbrev behind : List Piece → List ℕ
behind (Spaces spans count ∷ pieces) = flat_map piece_bytes pieces
behind pieces = flat_map piece_bytes pieces

front_behind : (pieces : List Piece) → flat_map piece_bytes pieces ≡ spaces (front pieces) ++ behind pieces
unfolding spaces
front_behind [] = refl
front_behind (As item ∷ pieces) = refl
front_behind (Spaces spans count ∷ pieces) = refl

-- what written items are, and whether an item is a mark, as the definitions have them
abbrev OfWhat : What-F What Item Note Par → Type 0
OfWhat (What-F.Char c) = Unit {0}
OfWhat _ = ⊥

abbrev is_mark_of : What-F What Item Note Par → Bool
is_mark_of (What-F.Mark mark) = true
is_mark_of _ = false

-- an item that is written is no mark
no_mark : (item : Item) → IsWrittenItem item → is_mark item ≡ false
no_mark item written = by_what (what_of item) written.0 where
  by_what : (what : What-F What Item Note Par) → OfWhat what → is_mark_of what ≡ false
  by_what (What-F.Char c) h = refl
  by_what What-F.Tab h = absurd h
  by_what What-F.Break h = absurd h
  by_what (What-F.Field field) h = absurd h
  by_what (What-F.Note note) h = absurd h
  by_what (What-F.Mark mark) h = absurd h

without_marks-written : (items : List Item) → Each IsWrittenItem items → without_marks items ≡ items
without_marks-written [] each = refl
without_marks-written (item ∷ items) each = rw (no_mark item each.0, without_marks-written items each.1) refl

-- pieces that don't begin with an element under spans
abbrev IsBare : List Piece → Type 0
IsBare (Spaces spans count ∷ pieces) = spans ≡ []
IsBare pieces = Unit {0}

bare_behind : (pieces : List Piece) → IsBare (behind_space [] pieces)
bare_behind [] = refl
bare_behind (As item ∷ pieces) = refl
bare_behind (Spaces [] count ∷ pieces) = refl
bare_behind (Spaces (name ∷ names) count ∷ pieces) = refl

bare_behind_none : (spans : List (List ℕ)) → spans ≡ [] → (pieces : List Piece) → IsBare (behind_space spans pieces)
bare_behind_none spans none pieces = rw none (bare_behind pieces)

bare-pieces : (before items : List Item) → Each IsWrittenItem items → IsBare (pieces_of (placed before items))
bare-pieces before [] each = tt
bare-pieces before (item ∷ items) each = by_need (is_space item && not (stands_for_itself (record { before = before; item = item; after = items }))) refl where
  by_need : (need : Bool) → (is_space item && not (stands_for_itself (record { before = before; item = item; after = items }))) ≡ need → IsBare (pieces_of (placed before (item ∷ items)))
  by_need true e = rw e (bare_behind_none (out-Item item).spans each.0.1 (pieces_of (placed (item ∷ before) items)))
  by_need false e = rw e tt

front-behind_space : (pieces : List Piece) → IsBare pieces → front (behind_space [] pieces) ≡ front pieces + 1
front-behind_space [] bare = refl
front-behind_space (As item ∷ pieces) bare = refl
front-behind_space (Spaces spans count ∷ pieces) bare = rw bare refl

behind-behind_space : (pieces : List Piece) → IsBare pieces → behind (behind_space [] pieces) ≡ behind pieces
behind-behind_space [] bare = refl
behind-behind_space (As item ∷ pieces) bare = refl
behind-behind_space (Spaces spans count ∷ pieces) bare = rw bare refl

space_of : (a b : Bool) → (a && b) ≡ true → a ≡ true
space_of true b e = refl
space_of false b e = e

content-pieces : (waiting : ℕ) (after_word : Bool) (before items : List Item) → Each IsWrittenItem items → is_word (without_marks before) ≡ after_word
    → content waiting after_word items ≡ spaces (waiting + front (pieces_of (placed before items))) ++ behind (pieces_of (placed before items))
content-pieces waiting after_word before [] each e = sym (ap (λ (n : ℕ). spaces n ++ []) (omega arith) ∙ append-nil (spaces waiting))
content-pieces waiting after_word before (item ∷ items) each e =
    by_need (content-pieces (waiting + 1) false (item ∷ before) items each.1) (content-pieces 0 (not (is_space item)) (item ∷ before) items each.1)
    (is_space item && not (may_stand after_word items)) refl where
      place : Placed
      place = record { before = before; item = item; after = items }

      more : List Piece
      more = pieces_of (placed (item ∷ before) items)

      stands : stands_for_itself place ≡ may_stand after_word items
      stands = rw (e, without_marks-written items each.1) refl

      word : is_word (without_marks (item ∷ before)) ≡ not (is_space item)
      word = rw (no_mark item each.0) refl

      by_need : (is_word (without_marks (item ∷ before)) ≡ false → content (waiting + 1) false items ≡ spaces (waiting + 1 + front more) ++ behind more)
          → (is_word (without_marks (item ∷ before)) ≡ not (is_space item) → content 0 (not (is_space item)) items ≡ spaces (0 + front more) ++ behind more)
          → (need : Bool) → (is_space item && not (may_stand after_word items)) ≡ need
          → content waiting after_word (item ∷ items) ≡ spaces (waiting + front (pieces_of (placed before (item ∷ items)))) ++ behind (pieces_of (placed before (item ∷ items)))
      by_need waits stays true needed =
          let joined : pieces_of (placed before (item ∷ items)) ≡ behind_space [] more = rw (stands, needed) (ap (λ (spans : List (List ℕ)). behind_space spans more) each.0.1) in
          let here : content waiting after_word (item ∷ items) ≡ content (waiting + 1) false items = rw needed refl in
          let after : is_word (without_marks (item ∷ before)) ≡ false = word ∙ ap not (space_of (is_space item) (not (may_stand after_word items)) needed) in
          here ∙ waits after
          ∙ rw (joined, front-behind_space more (bare-pieces (item ∷ before) items each.1), behind-behind_space more (bare-pieces (item ∷ before) items each.1))
          (ap (λ (n : ℕ). spaces n ++ behind more) (omega arith))
      by_need waits stays false needless =
          let apart : pieces_of (placed before (item ∷ items)) ≡ As item ∷ more = rw (stands, needless) refl in
          let here : content waiting after_word (item ∷ items) ≡ spaces waiting ++ item_bytes item ++ content 0 (not (is_space item)) items = rw needless refl in
          let rest : content 0 (not (is_space item)) items ≡ flat_map piece_bytes more =
          stays word ∙ ap (λ (n : ℕ). spaces n ++ behind more) (omega arith) ∙ sym (front_behind more) in
          let none : waiting ≡ waiting + 0 = omega arith in
          here ∙ ap (λ (bytes : List ℕ). spaces waiting ++ item_bytes item ++ bytes) rest ∙ append_assoc (spaces waiting) (item_bytes item) (flat_map piece_bytes more)
          ∙ rw apart (ap (λ (n : ℕ). spaces n ++ (item_bytes item ++ flat_map piece_bytes more)) none)

-- the content of items that are written, for who writes it from front to back
pub content_written : (items : List Item) → Each IsWrittenItem items → content 0 false items ≡ content_bytes items
content_written items each = content-pieces 0 false [] items each refl ∙ ap (λ (n : ℕ). spaces n ++ behind (pieces_of (placed [] items))) (omega arith) ∙ sym (front_behind (pieces_of (placed [] items)))
