-- What came last that isn't a mark.
use Rattle.std.specs.Prelude.{ℕ, nat_lt, Bool, true, false, Option, Some, None}
use Rattle.item_spaces.specs.declared.last.Last.{Last}
use Rattle.item_spaces.specs.declared.last.Last.TheVariants as last

-- whether the place of a space is below a count
abbrev pub is_within : Last → ℕ → Bool
is_within last.Nothing count = true
is_within last.Solid count = true
is_within (last.Space at) count = nat_lt at count

-- whether it is an item
abbrev pub is_solid_last : Last → Bool
is_solid_last last.Nothing = false
is_solid_last last.Solid = true
is_solid_last (last.Space at) = false

-- the place of the space that may stay, if there is one
abbrev pub place_of : Last → Option ℕ
place_of last.Nothing = None
place_of last.Solid = None
place_of (last.Space at) = Some at
