-- The index of a list of styles: for each family a map from names to places.
use Rattle.std.specs.Prelude.{◌≡◌, ◌↔◌, ℕ, ◌+◌, ◌-◌, nat_lt, ◌&&◌, if◌then◌else◌, List, map, Option, Some}
use Rattle.std.specs.Map.{lookup}
use Rattle.std.specs.Str.{bytes_eq}
use Rattle.doc_model.specs.declared.style.Family.{Family}
use Rattle.doc_model.specs.declared.style.Family.TheVariants as family
use Rattle.doc_model.specs.declared.style.Style.{Style}
use Rattle.indexmap.specs.IndexMap.{spare}
use Rattle.style_model.specs.Lineage.{StandsAt, is_same_family}
use Rattle.style_tree.specs.declared.index.Index.{Index}
use Rattle.style_tree.specs.declared.places.Shift.{Shift}
use Rattle.style_tree.specs.declared.places.Shift.TheVariants.{Open, Close}

-- the names of a family with their places
abbrev pub entries_of : Family → Index → List (List ℕ × ℕ)
entries_of family.Paragraph index = index.paragraph.entries
entries_of family.Text index = index.text.entries
entries_of family.Section index = index.section.entries

-- the place that the index has for a family and name
abbrev pub place_in : Index → Family → List ℕ → Option ℕ
place_in index of name = lookup (bytes_eq name) (entries_of of index)

-- how many more names of a family there is room for
abbrev pub room_for : Family → Index → ℕ
room_for family.Paragraph index = spare index.paragraph
room_for family.Text index = spare index.text
room_for family.Section index = spare index.section

-- the place of a family and name is this in the new index, and all others are as in the old one
abbrev pub Notes : Index → Family → List ℕ → Option ℕ → Index → Type 0
Notes old family name given new = (of : Family) (other : List ℕ) → place_in new of other ≡ (if is_same_family family of && bytes_eq name other then given else place_in old of other)

-- two indexes have the same names and places
abbrev pub SameIndex : Index → Index → Type 0
SameIndex old new = (of : Family) → entries_of of new ≡ entries_of of old

-- the index says exactly where in the list each style stands
abbrev pub Says : Index → List Style → Type 0
Says index styles = (of : Family) (name : List ℕ) (place : ℕ) → (place_in index of name ≡ Some place) ↔ StandsAt styles of name place

-- where a place is after a shift. At an opening the places from there on go up by one, and the last one, which is that of the new item, comes there; at a closing those behind go down by one
abbrev pub shifted : Shift → ℕ → ℕ
shifted (Open at count) place = if nat_lt place at then place else if nat_lt place count then place + 1 else at
shifted (Close at) place = if nat_lt at place then place - 1 else place

-- the entries with their places shifted
abbrev pub shifted_entries : Shift → List (List ℕ × ℕ) → List (List ℕ × ℕ)
shifted_entries shift entries = map (λ entry. (entry.0, shifted shift entry.1)) entries
