-- The ranges of numbers that the types of a document keep.
use Rattle.std.specs.Prelude.{ℕ, ℤ, pos, negsuc, ◌≤ℤ◌, ◌≤◌}

-- a length has a size of at most 100000000 units
abbrev pub IsLength : ℤ → Type 0
IsLength units = (negsuc 99999999 ≤ℤ units) × (units ≤ℤ pos 100000000)

-- a distance is a length that isn't below 0
abbrev pub IsDistance : ℕ → Type 0
IsDistance units = units ≤ 100000000

-- the pages that a page number field adds are from -9999 to 9999
abbrev pub IsPageAdjust : ℤ → Type 0
IsPageAdjust pages = (negsuc 9998 ≤ℤ pages) × (pages ≤ℤ pos 9999)

-- the number of a level of a list style, and how many levels one shows, are from 1 to 10
abbrev pub IsLevelNumber : ℕ → Type 0
IsLevelNumber number = (1 ≤ number) × (number ≤ 10)

-- how many tab stops a style states at most
abbrev pub most_tab_stops : ℕ
most_tab_stops = 32
