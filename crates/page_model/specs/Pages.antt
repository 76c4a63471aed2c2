-- The pages of body rows, one after another.
use Rattle.std.specs.Prelude.{ℕ, ◌+◌, ◌-◌, List, [], ◌∷◌, ◌++◌, length, take, drop, zero, suc, Bool, if◌then◌else◌, ◌==◌, ◌&&◌, Option, None, unwrap_or}
use Rattle.std.specs.Option.{option_and_then, option_or}
use Rattle.page_model.specs.declared.row.Row.{Row}
use Rattle.page_model.specs.declared.row.First.{First}
use Rattle.page_model.specs.declared.row.NoteRow.{NoteRow}
use Rattle.page_model.specs.declared.frame.Frames.{Frames}
use Rattle.page_model.specs.Frames.{frame_at, next_of}
use Rattle.page_model.specs.Breaking.{page_end, blanks_of, notes_of}

-- a page: the place of its master among the masters, its number, its body rows and its note rows
pub record Broken : Type 0 where
  pub master : Option ℕ
  pub number : ℕ
  pub rows : List Row
  pub notes : List NoteRow

-- what a page leaves to the next one: its master and number, and the note rows for which it had no room
pub record Left : Type 0 where
  pub master : Option ℕ
  pub number : ℕ
  pub carried : List NoteRow

-- before the first page there is no master, the number is 0 and no note row is carried
abbrev pub nothing_left : Left
nothing_left = record { master = None; number = 0; carried = [] }

-- what the first of some rows brings, where it is the first of a paragraph
abbrev pub brought : List Row → Option First
brought [] = None
brought (row ∷ rows) = row.first

-- the master of a page that begins with the first of some rows: the one that its paragraph states where it is the first row of it, else the one behind that of the page before. A stated master makes a page end in front of its paragraph
abbrev pub master_of : Frames → Left → List Row → Option ℕ
master_of frames left rows = option_or (option_and_then (λ first. first.master) (brought rows)) (next_of frames left.master)

-- the number of a page that begins with the first of some rows: the one that its paragraph states where it is the first row of it, else one more than that of the page before
abbrev pub number_of : Left → List Row → ℕ
number_of left rows = unwrap_or (option_and_then (λ first. first.number) (brought rows)) (left.number + 1)

-- the room of that page
abbrev pub room_for : Frames → Left → List Row → ℕ
room_for frames left rows = (frame_at frames (master_of frames left rows)).room

-- how many of the rows it has
abbrev pub count_for : Frames → Left → List Row → ℕ
count_for frames left rows = page_end (room_for frames left rows) left.carried rows

-- the note rows that wait for that page: those carried to it first, then those of its own rows
abbrev pub waiting : Frames → Left → List Row → List NoteRow
waiting frames left rows = left.carried ++ notes_of (take (count_for frames left rows) rows)

-- the note rows for which that page has room behind its body rows, its blank rows and a separator: all where the page fits
abbrev pub room_for_notes : Frames → Left → List Row → ℕ
room_for_notes frames left rows =
    room_for frames left rows - (count_for frames left rows + blanks_of (take (count_for frames left rows) rows) + 1)

-- the page that begins with the first of some rows. It has all note rows that wait for it or, where it has one row alone since no end fits, or none, the first ones for which there is room
abbrev pub page_of : Frames → Left → List Row → Broken
page_of frames left rows = record {
  master = master_of frames left rows;
  number = number_of left rows;
  rows = take (count_for frames left rows) rows;
  notes = take (room_for_notes frames left rows) (waiting frames left rows);
}

-- what it leaves; the other note rows are carried
abbrev pub left_by : Frames → Left → List Row → Left
left_by frames left rows = record {
  master = master_of frames left rows;
  number = number_of left rows;
  carried = drop (room_for_notes frames left rows) (waiting frames left rows);
}

-- the rows behind it
abbrev pub rows_behind : Frames → Left → List Row → List Row
rows_behind frames left rows = drop (count_for frames left rows) rows

-- whether neither a row nor a carried note row is left
abbrev pub is_over : Left → List Row → Bool
is_over left rows = (length rows == 0) && (length left.carried == 0)

-- at most so many pages: one, and then more until no row and no carried note row is left
abbrev pub at_most : ℕ → Frames → Left → List Row → List Broken
at_most zero frames left rows = []
at_most (suc most) frames left rows =
    page_of frames left rows
    ∷ (if is_over (left_by frames left rows) (rows_behind frames left rows) then [] else at_most most frames (left_by frames left rows) (rows_behind frames left rows))

-- the pages of body rows. There is one at least, and each behind it has a body row or a note row
unfoldable pub pages_of : Frames → List Row → List Broken
pages_of frames rows = at_most (length rows + length (notes_of rows) + 1) frames nothing_left rows
