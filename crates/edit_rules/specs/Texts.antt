-- What edits make of the items of a paragraph.
use Rattle.std.specs.Prelude.{ℕ, ◌+◌, ◌==◌, if◌then◌else◌, not, Bool, false, List, [], ◌∷◌, ◌++◌, map, take, drop, filter, zero, suc}
use Rattle.std.specs.List.{between, flat_map, list_any}
use Rattle.std.specs.Str.{bytes_eq}
use Rattle.doc_model.specs.declared.paragraph.Par.{Par, out-Par, roll-Par}
use Rattle.doc_model.specs.declared.paragraph.Item.{Item, out-Item, roll-Item}
use Rattle.doc_model.specs.declared.paragraph.What.{What, roll-What}
use Rattle.doc_model.specs.declared.paragraph.What.TheOpen.{What-F}
use Rattle.doc_model.specs.declared.paragraph.Note.{Note}
use Rattle.doc_model.specs.declared.paragraph.Mark.{Mark}
use Rattle.doc_model.specs.declared.paragraph.Mark.TheVariants.{Point, Start, End}
use Rattle.doc_model.specs.declared.edit.Pos.{Pos}
use Rattle.doc_model.specs.declared.document.Document.{Document}
use Rattle.doc_model.specs.Reading.{paragraphs, number_of}
use Rattle.doc_model.specs.Parts.{items_of, is_mark, mark_of, mark_name}
use Rattle.doc_model.specs.Alike.{in_document}

-- the document with a change made to the paragraph with this number
abbrev pub with_paragraph : ℕ → (Par → Par) → Document → Document
with_paragraph number change doc = in_document (λ par. if number_of par == number then change par else par) doc

-- the document with a change made to the items of the paragraph with this number
abbrev pub with_items : ℕ → (List Item → List Item) → Document → Document
with_items number change doc = with_paragraph number (λ par. roll-Par (record (out-Par par) { items = change (out-Par par).items })) doc

-- the spans of the item before a place, or none
abbrev pub spans_before : ℕ → List Item → List (List ℕ)
spans_before zero items = []
spans_before (suc at) items = flat_map (λ item. (out-Item item).spans) (between at (at + 1) items)

-- the items with others at a place
abbrev pub with_items_at : ℕ → List Item → List Item → List Item
with_items_at at others items = take at items ++ others ++ drop at items

-- the item that a character of an inserted text gives: a tab for U+9, a break for U+A
abbrev pub typed_item : List (List ℕ) → ℕ → Item
typed_item spans c = roll-Item (record { spans = spans; what = roll-What (of_char c) }) where
  of_char : ℕ → What-F What Item Note Par
  of_char c = if c == 0x9 then What-F.Tab else if c == 0xa then What-F.Break else What-F.Char c

-- items for a text at a place, with the spans of the item before
abbrev pub with_text : ℕ → List ℕ → List Item → List Item
with_text at text items = with_items_at at (map (typed_item (spans_before at items)) text) items

-- a field, note or mark at a place, with the spans of the item before
abbrev pub with_item : ℕ → What-F What Item Note Par → List Item → List Item
with_item at what items = with_items_at at (roll-Item (record { spans = spans_before at items; what = roll-What what }) ∷ []) items

-- the items without those of a range, but for marks
abbrev pub without_range : ℕ → ℕ → List Item → List Item
without_range from to items = take from items ++ filter is_mark (between from to items) ++ drop to items

-- the spans that a style gives: that one alone, or none for the empty name
abbrev pub spans_of : List ℕ → List (List ℕ)
spans_of style = if bytes_eq style [] then [] else style ∷ []

-- the items with these spans in place of those of each item of a range
abbrev pub with_spans : ℕ → ℕ → List (List ℕ) → List Item → List Item
with_spans from to spans items = take from items ++ map (λ item. roll-Item (record (out-Item item) { spans = spans })) (between from to items) ++ drop to items

-- whether an item is a mark of this bookmark
abbrev pub is_mark_of : List ℕ → Item → Bool
is_mark_of name item = list_any (λ mark. bytes_eq (mark_name mark) name) (mark_of item)

-- the paragraphs that hold a mark of a bookmark, by number
abbrev pub marked_paragraphs : List ℕ → Document → List ℕ
marked_paragraphs name doc = map number_of (filter (λ par. list_any (is_mark_of name) (items_of par)) (paragraphs doc))

-- the items without the marks of a bookmark
abbrev pub without_marks : List ℕ → List Item → List Item
without_marks name items = filter (λ item. not (is_mark_of name item)) items

-- the document without the marks of a bookmark
abbrev pub without_bookmark : List ℕ → Document → Document
without_bookmark name doc = in_document (λ par. roll-Par (record (out-Par par) { items = without_marks name (out-Par par).items })) doc

-- the document with a mark at a place
abbrev pub with_mark : Pos → Mark → Document → Document
with_mark place mark doc = with_items place.par.0 (with_item place.at (What-F.Mark mark)) doc

-- whether two places are the same
abbrev pub is_same_place : Pos → Pos → Bool
is_same_place left right = if left.par.0 == right.par.0 then left.at == right.at else false

-- the document with a bookmark: a point where its places are the same, else a start and an end. Both places are counted before insertion: so the end is the first to be put in
abbrev pub with_bookmark : List ℕ → Pos → Pos → Document → Document
with_bookmark name from to doc = if is_same_place from to then with_mark from (Point name) doc else with_mark from (Start name) (with_mark to (End name) doc)
