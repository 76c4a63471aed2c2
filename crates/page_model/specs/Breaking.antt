-- Where pages end: the places between body rows at which a page must end or may end, and the end of a page that begins with the first of some rows. A place is told by how many rows stand before it.
use Rattle.std.specs.Prelude.{ℕ, ◌+◌, ◌-◌, ◌==◌, nat_le, ◌&&◌, ◌||◌, Bool, true, false, if◌then◌else◌, max, List, [], ◌∷◌, length, take, drop, zero, suc, Option, Some, None}
use Rattle.std.specs.List.{flat_map}
use Rattle.page_model.specs.declared.row.Row.{Row}
use Rattle.page_model.specs.declared.row.NoteRow.{NoteRow}

-- whether a page must end between two rows that follow each other
abbrev pub must_end_between : Row → Row → Bool
must_end_between row next = row.ends || next.begins

-- the three levels: whether at one of them a page may end at a place. Level 0 holds keeps, widows and orphans, level 1 widows and orphans alone, and level 2 nothing. Where a page must end it may end at every level, and so at the end of the rows
abbrev pub may_end_at : ℕ → List Row → ℕ → Bool
may_end_at level rows place = at (drop (place - 1) rows) where
  at : List Row → Bool
  at [] = false
  at (row ∷ []) = true
  at (row ∷ next ∷ more) = must_end_between row next || nat_le row.level level

-- the first place behind the first row at which a page must end; the end of the rows is one
abbrev pub first_forced : List Row → ℕ
first_forced [] = 0
first_forced (row ∷ []) = 1
first_forced (row ∷ next ∷ more) = if must_end_between row next then 1 else suc (first_forced (next ∷ more))

-- the blank rows between two rows that follow each other on a page: between paragraphs the larger of the margins
abbrev pub blanks_between : Row → Row → ℕ
blanks_between row next = max row.below next.above

-- the blank rows of rows that stand on a page: none at its start and end
abbrev pub blanks_of : List Row → ℕ
blanks_of [] = 0
blanks_of (row ∷ []) = 0
blanks_of (row ∷ next ∷ more) = blanks_between row next + blanks_of (next ∷ more)

-- the note rows of rows, in their order
abbrev pub notes_of : List Row → List NoteRow
notes_of rows = flat_map (λ row. row.notes) rows

-- note rows with the separator that stands before them
abbrev pub with_separator : ℕ → ℕ
with_separator count = if count == 0 then 0 else count + 1

-- what rows cost on a page to which note rows were carried: themselves, their blank rows, and note rows with a separator
abbrev pub cost_of : List NoteRow → List Row → ℕ
cost_of carried rows = length rows + blanks_of rows + with_separator (length carried + length (notes_of rows))

-- whether a page of this room may end at a place: it fits, and the place isn't past the first at which it must end
abbrev pub is_reached : ℕ → List NoteRow → List Row → ℕ → Bool
is_reached room carried rows place = nat_le (cost_of carried (take place rows)) room && nat_le place (first_forced rows)

-- the greatest number from 1 up to a bound that passes a test
abbrev pub greatest_to : ℕ → (ℕ → Bool) → Option ℕ
greatest_to zero test = None
greatest_to (suc n) test = if test (suc n) then Some (suc n) else greatest_to n test

-- the greatest place at which a page of this room may end at a level; a page has no more rows than its room
abbrev pub end_at_level : ℕ → List NoteRow → List Row → ℕ → Option ℕ
end_at_level room carried rows level = greatest_to room (λ place. is_reached room carried rows place && may_end_at level rows place)

-- the first of three that is there, else a number
abbrev pub first_there : Option ℕ → Option ℕ → Option ℕ → ℕ → ℕ
first_there (Some n) b c last = n
first_there None (Some n) c last = n
first_there None None (Some n) last = n
first_there None None None last = last

-- how many of some rows a page of this room has: the greatest place at the least level that has one, else the first row alone. Where no row is left it has none
abbrev pub page_end : ℕ → List NoteRow → List Row → ℕ
page_end room carried [] = 0
page_end room carried (row ∷ rows) =
    first_there (end_at_level room carried (row ∷ rows) 0) (end_at_level room carried (row ∷ rows) 1) (end_at_level room carried (row ∷ rows) 2) 1
