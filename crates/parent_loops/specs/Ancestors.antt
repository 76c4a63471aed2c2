-- Things of which each has at most one parent, all told by their places.
use Rattle.std.specs.Prelude.{◌≡◌, ℕ, zero, suc, ◌≤◌, List, length, slice_index_or, Option, None, unwrap_or}

-- the parent of one, or the number of all where it has none
abbrev pub parent_of : List (Option ℕ) → ℕ → ℕ
parent_of parents at = unwrap_or (slice_index_or parents at None) (length parents)

-- the ancestor of one, so many steps above
abbrev pub ancestor : List (Option ℕ) → ℕ → ℕ → ℕ
ancestor parents zero at = at
ancestor parents (suc steps) at = ancestor parents steps (parent_of parents at)

-- one is its own ancestor, by at most one step more than there are things
abbrev pub IsOwnAncestor : List (Option ℕ) → ℕ → Type 0
IsOwnAncestor parents at = (steps : ℕ) × (steps ≤ length parents) × (ancestor parents (suc steps) at ≡ at)
