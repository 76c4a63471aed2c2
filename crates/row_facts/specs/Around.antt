-- The sections round the rows of a document.
use Rattle.std.specs.Prelude.{◌≡◌, ℕ, ◌<◌, Bool, true, false, slice_get, List, [], ◌∷◌, ◌++◌, map, take, fold, Option, Some, None, option_to_list}
use Rattle.std.specs.List.{flat_map}
use Rattle.node_array.specs.declared.row.SectionHead.{SectionHead as RowHead}
use Rattle.node_array.specs.declared.row.Row.{Row}
use Rattle.node_array.specs.declared.row.Row.TheVariants as row
use Rattle.row_facts.specs.Paragraphs.{BarePar, paragraph_in, section_in}

-- what is open at a place, the innermost first: sections, and None for a note
abbrev pub Opened : Type 0
Opened = List (Option RowHead)

-- without the innermost one
abbrev pub without_innermost : Opened → Opened
without_innermost [] = []
without_innermost (innermost ∷ outer) = outer

-- what is open behind a row
abbrev pub open_behind : Opened → Row → Opened
open_behind opened (row.Start head) = Some head ∷ opened
open_behind opened row.End = without_innermost opened
open_behind opened (row.Par head items) = opened
open_behind opened row.NoteText = None ∷ opened

-- the sections among what is open
abbrev pub sections_open : Opened → List RowHead
sections_open opened = flat_map option_to_list opened

-- what is open before the row at a place, counted from 0
abbrev pub open_before : ℕ → List Row → Opened
open_before at rows = fold open_behind [] (take at rows)

-- a paragraph as its row has it, with the sections round it, the innermost first
pub record PlacedRow : Type 0 where
  pub par : BarePar
  pub around : List RowHead

-- the paragraphs among rows, each with the sections round it, where so much is open before the first row
abbrev pub paragraphs_placed : Opened → List Row → List PlacedRow
paragraphs_placed opened [] = []
paragraphs_placed opened (r ∷ rows) = map (λ par. record { par = par; around = sections_open opened }) (paragraph_in r) ++ paragraphs_placed (open_behind opened r) rows

-- the sections that rows begin, each followed by those round it, the innermost first
abbrev pub sections_nested : Opened → List Row → List (List RowHead)
sections_nested opened [] = []
sections_nested opened (r ∷ rows) = map (λ head. head ∷ sections_open opened) (section_in r) ++ sections_nested (open_behind opened r) rows

-- whether a row begins a section or a note
abbrev pub begins : Row → Bool
begins (row.Start head) = true
begins row.End = false
begins (row.Par head items) = false
begins row.NoteText = true

-- whether a row is an End row
abbrev pub is_end : Row → Bool
is_end (row.Start head) = false
is_end row.End = true
is_end (row.Par head items) = false
is_end row.NoteText = false

-- what is open before a place is what the row at an earlier place begins, and what was open before that one
pub record IsOpenFrom (rows : List Row) (at earlier : ℕ) : Type 0 where
  pub first : Row
  pub stands : slice_get rows earlier ≡ Some first
  pub before : earlier < at
  pub beginning : begins first ≡ true
  pub opened : open_before at rows ≡ open_behind (open_before earlier rows) first

-- what is open before a place is known by the place of the innermost row round it
abbrev pub IsOpenBy : List Row → ℕ → Option ℕ → Type 0
IsOpenBy rows at None = open_before at rows ≡ []
IsOpenBy rows at (Some earlier) = IsOpenFrom rows at earlier
