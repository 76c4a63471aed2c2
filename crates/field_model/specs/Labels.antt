-- The labels of list items and headings, said of the heads of all paragraphs in reading order. A paragraph is named by its place among them, from 0.
use Rattle.std.specs.Prelude.{ℕ, ◌+◌, ◌-◌, ◌==◌, nat_lt, nat_le, ◌&&◌, ◌||◌, not, Bool, true, false, if◌then◌else◌, List, [], ◌∷◌, ◌++◌, map, filter, find, length, take, slice_get, Option, Some, None}
use Rattle.std.specs.List.{filter_map, list_any, join_with_byte}
use Rattle.std.specs.Str.{bytes_eq}
use Rattle.doc_model.specs.declared.paragraph.Par.{Par, out-Par}
use Rattle.doc_model.specs.declared.paragraph.ParHead.{ParHead}
use Rattle.doc_model.specs.declared.paragraph.ListPos.{ListPos}
use Rattle.doc_model.specs.declared.field.Format.{Format}
use Rattle.doc_model.specs.declared.field.Format.TheVariants.{Empty}
use Rattle.doc_model.specs.declared.list_style.ListStyle.{ListStyle}
use Rattle.doc_model.specs.declared.list_style.ListLevel.{ListLevel}
use Rattle.doc_model.specs.declared.list_style.LevelWhat.{LevelWhat}
use Rattle.doc_model.specs.declared.list_style.LevelWhat.TheVariants.{Bullet, Number}
use Rattle.doc_model.specs.declared.page.Label.{Label}
use Rattle.doc_model.specs.declared.document.Document.{Document}
use Rattle.doc_model.specs.Reading.{paragraphs}
use Rattle.field_model.specs.Cut.{cut}
use Rattle.field_model.specs.Numbers.{shown_number}

-- the head of a paragraph: all of it but its items
abbrev pub head_of : Par → ParHead
head_of par = record { id = (out-Par par).id; style = (out-Par par).style; level = (out-Par par).level; list = (out-Par par).list }

-- the heads of all paragraphs in reading order
abbrev pub heads : Document → List ParHead
heads doc = map head_of (paragraphs doc)

-- the place in the outline of a heading: it is an item of the outline style, whose name is empty
abbrev pub outline_place : ℕ → ListPos
outline_place level = record { style = []; level = level; item = true; fresh = false }

-- the place at which a paragraph is counted, if it is: its place in a list, where that has a style; without one a heading's place in the outline
abbrev pub counted_place : ParHead → Option ListPos
counted_place head = of_list head.list where
  of_style : ListPos → List ℕ → Option ListPos
  of_style place [] = None
  of_style place (first ∷ name) = Some place

  of_list : Option ListPos → Option ListPos
  of_list (Some place) = of_style place place.style
  of_list None = if head.level == 0 then None else Some (outline_place head.level)

-- the places that one list style counts, in reading order
abbrev pub places_counted_by : List ℕ → List ParHead → List ListPos
places_counted_by style all = filter (λ place. bytes_eq place.style style) (filter_map counted_place all)

-- whether a place is an item of a level
abbrev pub is_item_of : ℕ → ListPos → Bool
is_item_of level place = place.item && place.level == level

-- whether a place clears the counter of a level: counting starts again there, or it is an item of a level above
abbrev pub clears : ℕ → ListPos → Bool
clears level place = place.fresh || (place.item && nat_lt place.level level)

-- the items of a level that count at the end: those behind which no place clears the level's counter
abbrev pub counted_items : ℕ → List ListPos → List ListPos
counted_items level [] = []
counted_items level (place ∷ later) = if is_item_of level place && not (list_any (clears level) later) then place ∷ counted_items level later else counted_items level later

-- how many items of a level count behind these places
abbrev pub item_count : List ListPos → ℕ → ℕ
item_count places level = length (counted_items level places)

-- the number of a level of which so many items count: the first has the start value, each further one more. A clear counter has the start value too
abbrev pub level_number : ℕ → ℕ → ℕ
level_number start count = start + (count - 1)

-- whether levels of this format have no numbers
abbrev pub is_empty_format : Format → Bool
is_empty_format Empty = true
is_empty_format _ = false

-- whether the label of an own level, which shows so many levels, has the number of a level: it is among those up to the own one, and has numbers
abbrev pub is_shown : ℕ → ℕ → ListLevel → Bool
is_shown own display level = nat_le level.level own && nat_lt own (level.level + display) && has_numbers level.what where
  has_numbers : LevelWhat → Bool
  has_numbers (Bullet bullet) = false
  has_numbers (Number format prefix suffix start shown) = not (is_empty_format format)

-- the number of a level as its format shows it, where so many items of each level count
abbrev pub shown_level : (ℕ → ℕ) → ListLevel → List ℕ
shown_level count level = of_what level.what where
  of_what : LevelWhat → List ℕ
  of_what (Bullet bullet) = []
  of_what (Number format prefix suffix start shown) = shown_number format (level_number start (count level.level))

-- the numbers of the levels that a label shows, with full stops between them
abbrev pub shown_levels : List ListLevel → (ℕ → ℕ) → ℕ → ℕ → List ℕ
shown_levels levels count own display = join_with_byte 46 (map (shown_level count) (filter (is_shown own display) levels))

-- the empty label
abbrev pub no_label : Label
no_label = record { full = []; plain = [] }

-- the label of an item of an own level, where so many items of each level count, itself among them: the bullet, or prefix, numbers and suffix, and the numbers alone; none where the style lacks the level or it has no numbers
abbrev pub item_label : List ListLevel → (ℕ → ℕ) → ℕ → Label
item_label levels count own = of_level (find (λ level. level.level == own) levels) where
  of_what : LevelWhat → Label
  of_what (Bullet bullet) = record { full = bullet ∷ []; plain = bullet ∷ [] }
  of_what (Number format prefix suffix start display) = if is_empty_format format then no_label
      else record { full = cut (prefix ++ (shown_levels levels count own display ++ suffix)); plain = cut (shown_levels levels count own display) }

  of_level : Option ListLevel → Label
  of_level None = no_label
  of_level (Some level) = of_what level.what

-- the levels of a list style, none where there is no style
abbrev pub levels_of : Option ListStyle → List ListLevel
levels_of None = []
levels_of (Some list) = list.levels

-- the list style of a name
abbrev pub style_named : List ListStyle → List ℕ → Option ListStyle
style_named lists name = find (λ list. bytes_eq list.name name) lists

-- the levels by which a name's places are labelled: those of its list style, or of the outline, whose name is empty
abbrev pub levels_named : List ListStyle → ListStyle → List ℕ → List ListLevel
levels_named lists outline [] = outline.levels
levels_named lists outline (first ∷ rest) = levels_of (style_named lists (first ∷ rest))

-- the label of the paragraph that comes behind those before it: it has one where it is an item
abbrev pub label_behind : List ListStyle → ListStyle → List ParHead → ParHead → Label
label_behind lists outline before head = of_place (counted_place head) where
  of_place : Option ListPos → Label
  of_place None = no_label
  of_place (Some place) = if place.item then item_label (levels_named lists outline place.style) (item_count (places_counted_by place.style (before ++ head ∷ []))) place.level else no_label

-- the label of the paragraph at a place among all in reading order, from 0
abbrev pub label_at : List ListStyle → ListStyle → List ParHead → ℕ → Label
label_at lists outline all at = of_head (slice_get all at) where
  of_head : Option ParHead → Label
  of_head None = no_label
  of_head (Some head) = label_behind lists outline (take at all) head

-- the label of the paragraph at a place in a document
abbrev pub label_in : Document → ℕ → Label
label_in doc at = label_at doc.lists doc.outline (heads doc) at
