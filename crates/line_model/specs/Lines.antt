-- The lines of a key. Widths are in columns, and places in bytes of the key's text.
use Rattle.std.specs.Prelude.{ℕ, ℤ, pos, negsuc, int_div, ◌+ℤ◌, ◌+◌, ◌-◌, ◌*◌, max, ◌==◌, nat_le, ◌&&◌, Bool, true, false, not, if◌then◌else◌, List, [], ◌∷◌, ◌++◌, length, take, drop, reverse, zero, suc, Option, None, Some}
use Rattle.line_model.specs.declared.unit.TextUnit.{TextUnit}
use Rattle.line_model.specs.declared.key.Key.{Key}
use Rattle.line_model.specs.declared.key.Line.{Line}
use Rattle.line_model.specs.Units.{units_at, is_space, ends_word}

-- the lengths of a column
abbrev pub column : ℤ
column = pos 91440

-- a number, or 0 for one below it
abbrev pub from_zero_up : ℤ → ℕ
from_zero_up (pos n) = n
from_zero_up (negsuc n) = 0

-- the columns before the line at this place: the left margin, two for each list level after the first, and, for the first line, the indent. Lengths are cut towards zero
abbrev pub lead : Key → ℕ → ℕ
lead key from = from_zero_up (int_div key.left column +ℤ pos (2 * (key.level - 1)) +ℤ (if from == 0 then int_div key.indent column else pos 0))

-- the columns that the line at this place may take
abbrev pub width : Key → ℕ → ℕ
width key from = max 2 (key.columns - lead key from - from_zero_up (int_div key.right column))

-- units without the spaces at their end
abbrev pub without_last_spaces : List TextUnit → List TextUnit
without_last_spaces units = reverse (from_no_space (reverse units)) where
  from_no_space : List TextUnit → List TextUnit
  from_no_space [] = []
  from_no_space (unit ∷ more) = if is_space unit then from_no_space more else unit ∷ more

-- the columns of units together
abbrev pub columns_of : List TextUnit → ℕ
columns_of [] = 0
columns_of (unit ∷ units) = unit.columns + columns_of units

-- whether units fit into a width: the spaces at their end don't count
abbrev pub fits : ℕ → List TextUnit → Bool
fits width units = nat_le (columns_of (without_last_spaces units)) width

-- whether a line may end behind so many of some units: behind the last, the last of a run of spaces, or a hyphen that no space follows
abbrev pub may_end_behind : ℕ → List TextUnit → Bool
may_end_behind count units = at (drop (count - 1) units) where
  at : List TextUnit → Bool
  at [] = false
  at (unit ∷ []) = true
  at (unit ∷ next ∷ more) = ends_word unit && not (is_space next)

-- the greatest number from 1 up to a bound that passes a test
abbrev pub greatest_to : ℕ → (ℕ → Bool) → Option ℕ
greatest_to zero test = None
greatest_to (suc n) test = if test (suc n) then Some (suc n) else greatest_to n test

-- the first of two that is there, else the number
abbrev pub or_else : Option ℕ → Option ℕ → ℕ → ℕ
or_else (Some n) other last = n
or_else None (Some n) last = n
or_else None None last = last

-- how many of some units are their first line: the most that fit and behind which a line may end, else the most that fit, else one
abbrev pub line_length : ℕ → List TextUnit → ℕ
line_length width units = or_else
    (greatest_to (length units) (λ count. may_end_behind count units && fits width (take count units)))
    (greatest_to (length units) (λ count. fits width (take count units)))
    1

-- the place behind units that begin at a place
abbrev pub end_of : ℕ → List TextUnit → ℕ
end_of from [] = from
end_of from (unit ∷ units) = end_of unit.to units

-- the lines of units, one after another from a place on. There are at most as many as there are units, since each line has one
abbrev pub lines_of_units : Key → ℕ → List TextUnit → List Line
lines_of_units key from units = at_most (length units) from units where
  at_most : ℕ → ℕ → List TextUnit → List Line
  at_most zero from units = []
  at_most (suc most) from [] = []
  at_most (suc most) from (unit ∷ more) =
      record { from = from; to = end_of from (take (line_length (width key from) (unit ∷ more)) (unit ∷ more)) }
      ∷ at_most most (end_of from (take (line_length (width key from) (unit ∷ more)) (unit ∷ more))) (drop (line_length (width key from) (unit ∷ more)) (unit ∷ more))

-- the segments of a text: what stands between its breaks, which are U+A
abbrev pub segments : List ℕ → List (List ℕ)
segments [] = [] ∷ []
segments (byte ∷ bytes) = if byte == 0xa then [] ∷ segments bytes else in_front byte (segments bytes) where
  in_front : ℕ → List (List ℕ) → List (List ℕ)
  in_front byte [] = []
  in_front byte (segment ∷ more) = (byte ∷ segment) ∷ more

-- the lines of a segment from a place on: one without bytes has one empty line
abbrev pub lines_of_segment : Key → ℕ → List ℕ → List Line
lines_of_segment key from [] = record { from = from; to = from } ∷ []
lines_of_segment key from (byte ∷ bytes) = lines_of_units key from (units_at from (byte ∷ bytes))

-- the lines of segments from a place on, with a break between two
abbrev pub lines_of_segments : Key → ℕ → List (List ℕ) → List Line
lines_of_segments key from [] = []
lines_of_segments key from (segment ∷ more) = lines_of_segment key from segment ++ lines_of_segments key (from + length segment + 1) more

-- the lines of a key: a hidden one has none
unfoldable pub lines_of : Key → List Line
lines_of key = if key.hidden then [] else lines_of_segments key 0 (segments key.text)
