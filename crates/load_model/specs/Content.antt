-- White space in the content of paragraphs, said of whole lists: of a run of spaces one stays, and those at both ends go.
use Rattle.std.specs.Prelude.{ℕ, ◌==◌, ◌&&◌, ◌||◌, not, Bool, false, if◌then◌else◌, List, [], ◌∷◌, map, filter}
use Rattle.std.specs.List.{list_any}
use Rattle.doc_model.specs.declared.paragraph.Item.{Item, roll-Item}
use Rattle.doc_model.specs.declared.paragraph.Par.{Par}
use Rattle.doc_model.specs.declared.paragraph.Note.{Note}
use Rattle.doc_model.specs.declared.paragraph.What.{What, roll-What}
use Rattle.doc_model.specs.declared.paragraph.What.TheOpen.{What-F}
use Rattle.doc_model.specs.Parts.{is_mark}

-- what is read in a paragraph, one after another: a space of character data with the spans round it, or an item
pub data Raw : Type 0 where
  Blank : (spans : List (List ℕ)) → Raw
  Read : (item : Item) → Raw

-- an item in spans
abbrev pub item_in : List (List ℕ) → What-F What Item Note Par → Item
item_in spans what = roll-Item (record { spans = spans; what = roll-What what })

-- whether a character is white space of XML: tab, line feed, carriage return or space
abbrev pub is_white : ℕ → Bool
is_white c = c == 0x20 || c == 0x9 || c == 0xa || c == 0xd

-- a character of character data
abbrev pub raw_character : List (List ℕ) → ℕ → Raw
raw_character spans c = if is_white c then Blank spans else Read (item_in spans (What-F.Char c))

-- characters that are taken as they are, where white space is spaces
abbrev pub spaced : List ℕ → List ℕ
spaced text = map (λ c. if is_white c then 0x20 else c) text

-- whether what is read is an item other than a mark: it ends a run of spaces
abbrev pub is_solid : Raw → Bool
is_solid (Blank spans) = false
is_solid (Read item) = not (is_mark item)

-- whether what is read is a mark, which neither ends nor begins a run
abbrev pub is_passing : Raw → Bool
is_passing (Blank spans) = false
is_passing (Read item) = is_mark item

-- whether the nearest that isn't a mark ends a run
abbrev pub is_nearest_solid : List Raw → Bool
is_nearest_solid before = of_nearest (filter (λ raw. not (is_passing raw)) before) where
  of_nearest : List Raw → Bool
  of_nearest [] = false
  of_nearest (raw ∷ more) = is_solid raw

-- the items of what is read, behind what was, the nearest first: a space of character data stays where an item that isn't a mark stands before it, with nothing but marks between, and another one somewhere behind it
abbrev pub items_behind : List Raw → List Raw → List Item
items_behind before [] = []
items_behind before (Read item ∷ after) = item ∷ items_behind (Read item ∷ before) after
items_behind before (Blank spans ∷ after) =
    if is_nearest_solid before && list_any is_solid after
    then item_in spans (What-F.Char 0x20) ∷ items_behind (Blank spans ∷ before) after
    else items_behind (Blank spans ∷ before) after

-- the items of what is read in a paragraph
abbrev pub items_of_raw : List Raw → List Item
items_of_raw raws = items_behind [] raws
