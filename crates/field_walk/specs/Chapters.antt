-- The last headings of at most each level, one paragraph further.
use Rattle.std.specs.Prelude.{ℕ, ◌-◌, nat_le, ◌&&◌, if◌then◌else◌, List, [], ◌∷◌, map, slice_index_or, Option, Some, None}

-- the last headings of at most the levels 1 to 10 behind a paragraph of a level, where 0 is none, by those in front of it
abbrev pub chapters_behind : ℕ → ℕ → List (Option ℕ) → List (Option ℕ)
chapters_behind level par before = map behind (1 ∷ 2 ∷ 3 ∷ 4 ∷ 5 ∷ 6 ∷ 7 ∷ 8 ∷ 9 ∷ 10 ∷ []) where
  behind : ℕ → Option ℕ
  behind most = if nat_le 1 level && nat_le level most then Some par else slice_index_or before (most - 1) None
