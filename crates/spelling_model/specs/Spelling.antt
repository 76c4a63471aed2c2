-- The canonical bytes of a document that has nothing but paragraphs of characters. What else a document may have gets its spelling later, and isn't written until then.
use Rattle.std.specs.Prelude.{◌≡◌, ℕ, ◌+◌, ◌==◌, if◌then◌else◌, Bool, true, false, not, ◌&&◌, List, [], ◌∷◌, ◌++◌, filter, None, codes, decimal, encode_utf8, zero, suc}
use Rattle.std.specs.List.{AllByRecursion as Each, flat_map}
use Rattle.std.specs.Str.{bytes_eq}
use Rattle.std.specs.Cmp.Lexicographic.{pointwise}
use Rattle.spelling_model.specs.declared.pieces.TheConstants.{ROOT, ROOT_END, BODY, TAIL, EMPTY_PARAGRAPH, PARAGRAPH, PARAGRAPH_END, SPACE, SPACES, SPACES_END}
use Rattle.doc_model.specs.declared.block.Block.{Block, out-Block, fold-Block}
use Rattle.doc_model.specs.declared.block.Block.TheOpen.{Block-F, Section-F}
use Rattle.doc_model.specs.declared.paragraph.Par.{Par, out-Par}
use Rattle.doc_model.specs.declared.block.Section.{Section}
use Rattle.doc_model.specs.declared.paragraph.Item.{Item, out-Item}
use Rattle.doc_model.specs.declared.paragraph.What.{What}
use Rattle.doc_model.specs.declared.paragraph.What.TheOpen.{What-F}
use Rattle.doc_model.specs.declared.paragraph.Note.{Note}
use Rattle.doc_model.specs.declared.document.Document.{Document}
use Rattle.doc_model.specs.Empty.{only_body}
use Rattle.doc_model.specs.Parts.{what_of, is_mark}

-- what stands in front of the styles: the declaration and the root's tag
unfoldable pub head : List ℕ
head = ROOT.now ++ ROOT_END.now

-- the start tags of body and text
unfoldable pub opening : List ℕ
opening = BODY.now

-- the end tags of text, body and root
unfoldable pub tail : List ℕ
tail = TAIL.now

unfoldable pub empty_paragraph : List ℕ
empty_paragraph = EMPTY_PARAGRAPH.now

unfoldable pub paragraph_start : List ℕ
paragraph_start = PARAGRAPH.now

unfoldable pub paragraph_end : List ℕ
paragraph_end = PARAGRAPH_END.now

-- spaces that can't stand for themselves: one element for those directly after each other
unfoldable pub spaces : ℕ → List ℕ
spaces zero = []
spaces (suc zero) = SPACE.now
spaces (suc (suc more)) = SPACES.now ++ decimal (suc (suc more)) ++ SPACES_END.now

-- a character of a text: the entities for &, < and >, and each other one as itself
unfoldable pub escaped : ℕ → List ℕ
escaped c = if c == 0x26 then codes "&amp;" else if c == 0x3c then codes "&lt;" else if c == 0x3e then codes "&gt;" else encode_utf8 c

-- whether an item is the character U+20
abbrev pub is_space : Item → Bool
is_space item = of_what (what_of item) where
  of_what : What-F What Item Note Par → Bool
  of_what (What-F.Char c) = c == 0x20
  of_what _ = false

-- a character that stands for itself
abbrev pub item_bytes : Item → List ℕ
item_bytes item = of_what (what_of item) where
  of_what : What-F What Item Note Par → List ℕ
  of_what (What-F.Char c) = escaped c
  of_what _ = []

-- an item of a paragraph with those before it, the nearest first, and those after it
pub record Placed : Type 0 where
  pub before : List Item
  pub item : Item
  pub after : List Item

-- each of some items with those before and after it, behind these
abbrev pub placed : List Item → List Item → List Placed
placed before [] = []
placed before (item ∷ after) = record { before = before; item = item; after = after } ∷ placed (item ∷ before) after

-- the items that aren't marks
abbrev pub without_marks : List Item → List Item
without_marks items = filter (λ item. not (is_mark item)) items

-- whether the nearest of some items is there and isn't a space
abbrev pub is_word : List Item → Bool
is_word [] = false
is_word (item ∷ items) = not (is_space item)

-- whether a list has an item
abbrev pub is_there : {X : Type 0} → List X → Bool
is_there [] = false
is_there (item ∷ items) = true

-- a space stands for itself where the nearest item before it that isn't a mark is there and isn't a space, and an item that isn't a mark stands after it
abbrev pub stands_for_itself : Placed → Bool
stands_for_itself place = is_word (without_marks place.before) && is_there (without_marks place.after)

-- what the content of a paragraph is written in: items as they are, and elements for so many spaces under a stack of spans
pub data Piece : Type 0 where
  As : (item : Item) → Piece
  Spaces : (spans : List (List ℕ)) (count : ℕ) → Piece

-- pieces behind a space that can't stand for itself: one element stands for those directly after each other under one stack of spans
abbrev pub behind_space : List (List ℕ) → List Piece → List Piece
behind_space spans (Spaces others count ∷ pieces) =
    if pointwise bytes_eq spans others then Spaces spans (count + 1) ∷ pieces else Spaces spans 1 ∷ Spaces others count ∷ pieces
behind_space spans pieces = Spaces spans 1 ∷ pieces

-- the pieces of items that stand in these places, one after another
abbrev pub pieces_of : List Placed → List Piece
pieces_of [] = []
pieces_of (place ∷ places) =
    if is_space place.item && not (stands_for_itself place) then behind_space (out-Item place.item).spans (pieces_of places) else As place.item ∷ pieces_of places

-- a piece
abbrev pub piece_bytes : Piece → List ℕ
piece_bytes (As item) = item_bytes item
piece_bytes (Spaces spans count) = spaces count

-- the content of a paragraph of these items
abbrev pub content_bytes : List Item → List ℕ
content_bytes items = flat_map piece_bytes (pieces_of (placed [] items))

-- a paragraph with its items
abbrev pub paragraph_bytes : Par → List ℕ
paragraph_bytes par = of_items (out-Par par).items where
  of_items : List Item → List ℕ
  of_items [] = empty_paragraph
  of_items (item ∷ items) = paragraph_start ++ content_bytes (item ∷ items) ++ paragraph_end

-- a block of the body
abbrev pub block_bytes : Block → List ℕ
block_bytes = fold-Block (List ℕ) (List ℕ) of_block of_section where
  of_block : Block-F (List ℕ) (List ℕ) → List ℕ
  of_block (Block-F.Par par) = paragraph_bytes par
  of_block (Block-F.Section section) = section

  of_section : Section-F (List ℕ) (List ℕ) → List ℕ
  of_section section = flat_map (λ block. block) section.blocks

-- an item that has a spelling: a character without spans
abbrev pub IsWrittenItem : Item → Type 0
IsWrittenItem item = of_what (what_of item) × ((out-Item item).spans ≡ []) where
  of_what : What-F What Item Note Par → Type 0
  of_what (What-F.Char c) = Unit {0}
  of_what _ = ⊥

-- a paragraph that has a spelling: one of such items, without a style, a heading level and a list place
pub record IsWrittenPar (par : Par) : Type 0 where
  pub items : Each IsWrittenItem (out-Par par).items
  pub style : (out-Par par).style ≡ []
  pub level : (out-Par par).level ≡ 0
  pub list : (out-Par par).list ≡ None

-- a block that has a spelling: such a paragraph
abbrev pub IsWrittenBlock : Block → Type 0
IsWrittenBlock block = of_block (out-Block block) where
  of_block : Block-F Block Section → Type 0
  of_block (Block-F.Par par) = IsWrittenPar par
  of_block (Block-F.Section section) = ⊥

-- a document that has a spelling: such blocks, and nothing else
abbrev pub IsWritten : Document → Type 0
IsWritten doc = Each IsWrittenBlock doc.body × (doc ≡ only_body doc.body)

-- the canonical bytes of a document
abbrev pub canonical : Document → List ℕ
canonical doc = head ++ (opening ++ (flat_map block_bytes doc.body ++ tail))
