-- The pieces of a paragraph are read back.
use Rattle.std.proofs.Common.{◌≡◌, ℕ, ◌+◌, ◌≤◌, suc, Bool, true, false, not, ◌&&◌, cond, List, [], ◌∷◌, ◌++◌, map, length, refl, ap, ap₂, ◌∙◌, arith, bytes_eq}
use Rattle.std.specs.Cmp.Lexicographic.{pointwise}
use Rattle.std.specs.List.{flat_map, AllByRecursion as Each}
use Rattle.markup_nodes.specs.declared.tree.Elem.{Elem}
use Rattle.markup_nodes.specs.Node.{Node}
use Rattle.doc_model.specs.declared.paragraph.Item.{Item, out-Item}
use Rattle.doc_model.specs.declared.paragraph.Note.{Note}
use Rattle.doc_model.specs.Valid.{IsItem}
use Rattle.load_model.specs.Blocks.{Around, ReadContent, content_of}
use Rattle.load_model.specs.Content.{Raw, items_of_raw}
use Rattle.load_model.specs.Styles.{Names}
use Rattle.written_model.specs.Content.{Spanned, spanned, content}
use Rattle.spelling_model.specs.Spelling.{Piece, As, Spaces, behind_space, is_space, pieces_of, placed, stands_for_itself}
use Rattle.back_fields.specs.Given.{given, whole}
use Rattle.back_spaces.specs.Raws.{raws_of}
use Rattle.back_spaces.proofs.RawLemmas.{spaces_back as items_back}
use Rattle.back_spans.specs.Spans.{read_in, IsTextStyle, IsIn}
use Rattle.back_spans.proofs.Runs.{nodes_read}
use Rattle.back_items.specs.Items.{IsReadable, IsReadAs}
use Rattle.back_items.proofs.Whats.{spaces_back, item_read}

module _ (names : Names) (in_note : Bool) (note_node : Note → Node Elem) where
  -- so many spaces in spans that are there, or an item that can be read
  record IsSpaces (most : ℕ) (spans : List (List ℕ)) (count : ℕ) : Type 0 where
    styles : Each (IsTextStyle names) spans
    few : length spans ≤ 8
    some : 1 ≤ count
    at_most : count ≤ most

  abbrev IsPiece : ℕ → Piece → Type 0
  IsPiece most (As item) = IsReadable names in_note note_node item
  IsPiece most (Spaces spans count) = IsSpaces most spans count

  one_more : (most : ℕ) (pieces : List Piece) → Each (IsPiece most) pieces → Each (IsPiece (suc most)) pieces
  one_more most [] each = tt
  one_more most (As item ∷ pieces) each = (each.0, one_more most pieces each.1)
  one_more most (Spaces spans count ∷ pieces) each = (record { styles = each.0.styles; few = each.0.few; some = each.0.some; at_most = omega (arith, each.0.at_most) }, one_more most pieces each.1)

  space_more : (most : ℕ) (spans : List (List ℕ)) (pieces : List Piece) → Each (IsTextStyle names) spans → length spans ≤ 8 → Each (IsPiece most) pieces → Each (IsPiece (suc most)) (behind_space spans pieces)
  space_more most spans [] styles few each = (record { styles = styles; few = few; some = omega arith; at_most = omega arith }, tt)
  space_more most spans (As item ∷ pieces) styles few each = (record { styles = styles; few = few; some = omega arith; at_most = omega arith }, one_more most (As item ∷ pieces) each)
  space_more most spans (Spaces others count ∷ pieces) styles few each = by_test (pointwise bytes_eq spans others) where
    by_test : (same : Bool) → Each (IsPiece (suc most)) (cond same (Spaces spans (count + 1) ∷ pieces) (Spaces spans 1 ∷ Spaces others count ∷ pieces))
    by_test true = (record { styles = styles; few = few; some = omega arith; at_most = omega (arith, each.0.at_most) }, one_more most pieces each.1)
    by_test false = (record { styles = styles; few = few; some = omega arith; at_most = omega arith }, one_more most (Spaces others count ∷ pieces) each)

  all_pieces : (before items : List Item) → Each (IsReadable names in_note note_node) items → Each (IsPiece (length items)) (pieces_of (placed before items))
  all_pieces before [] each = tt
  all_pieces before (item ∷ after) each = by_need (all_pieces (item ∷ before) after each.1) (is_space item && not (stands_for_itself (record { before = before; item = item; after = after }))) where
    by_need : Each (IsPiece (length after)) (pieces_of (placed (item ∷ before) after)) → (need : Bool)
        → Each (IsPiece (suc (length after))) (cond need (behind_space (out-Item item).spans (pieces_of (placed (item ∷ before) after))) (As item ∷ pieces_of (placed (item ∷ before) after)))
    by_need more true = space_more (length after) (out-Item item).spans (pieces_of (placed (item ∷ before) after)) each.0.styles each.0.legal.1 more
    by_need more false = (each.0, one_more (length after) (pieces_of (placed (item ∷ before) after)) more)

  abbrev around : Around
  around = record { spans = []; in_note = in_note }

  piece_read : (most : ℕ) (piece : Piece) → most ≤ 4294967295 → IsPiece most piece → read_in names around (spanned note_node piece) ≡ whole (raws_of piece)
  piece_read most (As item) few is = item_read names in_note note_node item is.what
  piece_read most (Spaces spans count) few is = spaces_back names (record { spans = spans; in_note = in_note }) count is.some (omega (arith, is.at_most))

  piece_in : (most : ℕ) (piece : Piece) → most ≤ 4294967295 → IsPiece most piece → IsIn names around (spanned note_node piece)
  piece_in most (As item) few is = record { styles = is.styles; few = omega (arith, is.legal.1); none = ap (λ (content : ReadContent). content.left) (piece_read most (As item) few is) }
  piece_in most (Spaces spans count) few is = record { styles = is.styles; few = omega (arith, is.few); none = ap (λ (content : ReadContent). content.left) (piece_read most (Spaces spans count) few is) }

  all_in : (most : ℕ) (pieces : List Piece) → most ≤ 4294967295 → Each (IsPiece most) pieces → Each (IsIn names around) (map (spanned note_node) pieces)
  all_in most [] few each = tt
  all_in most (piece ∷ pieces) few each = (piece_in most piece few each.0, all_in most pieces few each.1)

  all_raws : (most : ℕ) (pieces : List Piece) → most ≤ 4294967295 → Each (IsPiece most) pieces → flat_map (λ (node : Spanned). (read_in names around node).raws) (map (spanned note_node) pieces) ≡ flat_map raws_of pieces
  all_raws most [] few each = refl
  all_raws most (piece ∷ pieces) few each = ap₂ (λ (front back : List Raw). front ++ back) (ap (λ (content : ReadContent). content.raws) (piece_read most piece few each.0)) (all_raws most pieces few each.1)

  only_legal : (items : List Item) → Each (IsReadable names in_note note_node) items → Each IsItem items
  only_legal [] each = tt
  only_legal (item ∷ items) each = (each.0.legal, only_legal items each.1)

  content_read : (items : List Item) → Each (IsReadable names in_note note_node) items → length items ≤ 4294967295
      → content_of around (map (given names) (content note_node items)) ≡ whole (flat_map raws_of (pieces_of (placed [] items)))
  content_read items each few =
      let pieces = all_pieces [] items each in
      nodes_read names around (map (spanned note_node) (pieces_of (placed [] items))) (all_in (length items) (pieces_of (placed [] items)) few pieces) ∙ ap whole (all_raws (length items) (pieces_of (placed [] items)) few pieces)

  pub content_back : (items : List Item) → Each (IsReadable names in_note note_node) items → length items ≤ 4294967295 → IsReadAs (content_of around (map (given names) (content note_node items))) items
  content_back items each few =
      let read = content_read items each few in
      record { same = ap (λ (content : ReadContent). items_of_raw content.raws) read ∙ items_back items (only_legal items each); none = ap (λ (content : ReadContent). content.left) read }
