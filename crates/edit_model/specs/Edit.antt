-- The edited document, and the first refusal of an edit. A document that is edited has the next paragraph number beside it.
use Rattle.std.specs.Prelude.{ℕ, ◌+◌, ◌==◌, nat_lt, if◌then◌else◌, Bool, true, false, List, [], ◌∷◌, ◌++◌, map, length, take, drop, filter, find, Option, Some, None, Result, Ok, Err, zero, suc}
use Rattle.std.specs.List.{between, flat_map}
use Rattle.std.specs.Option.{option_map, option_map_or}
use Rattle.doc_model.specs.declared.paragraph.ParId.{ParId}
use Rattle.doc_model.specs.declared.paragraph.Par.{Par, out-Par, roll-Par}
use Rattle.doc_model.specs.declared.paragraph.Item.{Item, out-Item, roll-Item}
use Rattle.doc_model.specs.declared.paragraph.What.{What, roll-What}
use Rattle.doc_model.specs.declared.paragraph.What.TheOpen.{What-F}
use Rattle.doc_model.specs.declared.paragraph.Note.{Note}
use Rattle.doc_model.specs.declared.edit.EditOp.{EditOp}
use Rattle.doc_model.specs.declared.edit.EditOp.TheVariants.{InsertText, DeleteRange, DefineStyle, RemoveStyle, SetParent, SetProp}
use Rattle.doc_model.specs.declared.refusal.Refusal.{Refusal}
use Rattle.doc_model.specs.declared.refusal.Refusal.TheVariants.{NoPar, PastEnd, BadRange, BadChar}
use Rattle.doc_model.specs.declared.refusal.Refusal.TheVariants as refusal
use Rattle.doc_model.specs.declared.refusal.Limit.TheVariants.{Operations}
use Rattle.doc_model.specs.declared.document.Document.{Document}
use Rattle.doc_model.specs.Chars.{first_untypable}
use Rattle.doc_model.specs.Reading.{paragraphs, number_of}
use Rattle.doc_model.specs.Parts.{items_of, is_mark}
use Rattle.doc_model.specs.Alike.{in_document}
use Rattle.doc_model.specs.Limits.{first_passed, limit_number}

-- a document and the least paragraph number that was never given
pub record Edited : Type 0 where
  pub document : Document
  pub next : ℕ

-- the spans of the item before a place, or none
abbrev pub spans_before : ℕ → List Item → List (List ℕ)
spans_before zero items = []
spans_before (suc at) items = flat_map (λ item. (out-Item item).spans) (between at (at + 1) items)

-- the item that a character of an inserted text gives: a tab for U+9, a break for U+A
abbrev pub typed_item : List (List ℕ) → ℕ → Item
typed_item spans c = roll-Item (record { spans = spans; what = roll-What (of_char c) }) where
  of_char : ℕ → What-F What Item Note Par
  of_char c = if c == 0x9 then What-F.Tab else if c == 0xa then What-F.Break else What-F.Char c

-- items for a text at a place, with the spans of the item before
abbrev pub with_text : ℕ → List ℕ → List Item → List Item
with_text at text items = take at items ++ map (typed_item (spans_before at items)) text ++ drop at items

-- the items without those of a range, but for marks
abbrev pub without_range : ℕ → ℕ → List Item → List Item
without_range from to items = take from items ++ filter is_mark (between from to items) ++ drop to items

-- the document with a change made to the items of the paragraph with this number
abbrev pub with_items : ℕ → (List Item → List Item) → Document → Document
with_items number change doc = in_document (λ par.
    if number_of par == number then roll-Par (record (out-Par par) { items = change (out-Par par).items }) else par) doc

-- what an operation makes of a document that it can be done on. Those without a case of their own aren't built yet: no call that edits takes them
abbrev pub edited : Edited → EditOp → Edited
edited old (InsertText par at text) = record old { document = with_items par.0 (with_text at text) old.document }
edited old (DeleteRange par from to) = record old { document = with_items par.0 (without_range from to) old.document }
edited old _ = old

-- the paragraphs that an operation touches in a document: those whose lines it may change
abbrev pub touched : Edited → EditOp → List ℕ
touched old (InsertText par at text) = par.0 ∷ []
touched old (DeleteRange par from to) = par.0 ∷ []
touched old _ = []

-- the paragraphs that operations touch, done one after another
abbrev pub touched_by : Edited → List EditOp → List ℕ
touched_by old [] = []
touched_by old (op ∷ ops) = touched old op ++ touched_by (edited old op) ops

-- whether an operation changes styles
abbrev pub is_restyling : EditOp → Bool
is_restyling (DefineStyle style) = true
is_restyling (RemoveStyle family name) = true
is_restyling (SetParent family name parent) = true
is_restyling (SetProp family name prop) = true
is_restyling _ = false

-- the paragraphs that an operation names, in the order of its fields
abbrev pub named_paragraphs : EditOp → List ParId
named_paragraphs (InsertText par at text) = par ∷ []
named_paragraphs (DeleteRange par from to) = par ∷ []
named_paragraphs _ = []

-- the places that an operation has, in the order of its fields
abbrev pub places : EditOp → List (ParId × ℕ)
places (InsertText par at text) = (par, at) ∷ []
places (DeleteRange par from to) = (par, from) ∷ (par, to) ∷ []
places _ = []

-- the paragraph with this number, if it is live
abbrev pub live_paragraph : Document → ParId → Option Par
live_paragraph doc par = find (λ other. number_of other == par.0) (paragraphs doc)

-- how many items a paragraph has
abbrev pub item_count : Document → ParId → ℕ
item_count doc par = option_map_or (λ live. length (items_of live)) (live_paragraph doc par) 0

-- the first named paragraph that isn't live
abbrev pub no_paragraph : Document → EditOp → Option Refusal
no_paragraph doc op = first (named_paragraphs op) where
  first : List ParId → Option Refusal
  first [] = None
  first (par ∷ pars) = option_map_or (λ live. first pars) (live_paragraph doc par) (Some (NoPar par))

-- the first place that is above its paragraph's item count
abbrev pub past_end : Document → EditOp → Option Refusal
past_end doc op = first (places op) where
  first : List (ParId × ℕ) → Option Refusal
  first [] = None
  first (place ∷ rest) = if nat_lt (item_count doc place.0) place.1 then Some (PastEnd place.0 (item_count doc place.0)) else first rest

-- a range that ends before it begins, in reading order
abbrev pub bad_range : Document → EditOp → Option Refusal
bad_range doc (DeleteRange par from to) = if nat_lt to from then Some (BadRange from to) else None
bad_range doc _ = None

-- the first character of a text that can't be typed, by how many stand before it
abbrev pub bad_char : EditOp → Option Refusal
bad_char (InsertText par at text) = option_map BadChar (first_untypable text)
bad_char _ = None

-- the first limit that the result would pass
abbrev pub limit_passed : Edited → EditOp → Option Refusal
limit_passed old op = option_map (λ limit. refusal.Limit limit (limit_number limit)) (first_passed (edited old op).document)

-- the first of some refusals that is there
abbrev pub first_refusal_of : List (Option Refusal) → Option Refusal
first_refusal_of [] = None
first_refusal_of (None ∷ more) = first_refusal_of more
first_refusal_of (Some why ∷ more) = Some why

-- the first refusal of an operation, if there is one
abbrev pub first_refusal : Edited → EditOp → Option Refusal
first_refusal old op = first_refusal_of (no_paragraph old.document op ∷ past_end old.document op ∷ bad_range old.document op ∷ bad_char op ∷ limit_passed old op ∷ [])

-- operations one after another, the first of this index: the edited document, or the index and refusal of the first one that is refused
abbrev pub edited_by : Edited → ℕ → List EditOp → Result Edited (ℕ × Refusal)
edited_by old index [] = Ok old
edited_by old index (op ∷ ops) = option_map_or (λ why. Err (index, why)) (first_refusal old op) (edited_by (edited old op) (index + 1) ops)

-- a group is its operations one after another; one of more than 1024 is refused before them
abbrev pub edited_by_group : Edited → List EditOp → Result Edited (ℕ × Refusal)
edited_by_group old ops = if nat_lt (limit_number Operations) (length ops) then Err (1024, refusal.Limit Operations 1024) else edited_by old 0 ops
