-- What is known behind walks to ancestors.
use Rattle.std.specs.Prelude.{◌≡◌, ℕ, ◌+◌, ◌-◌, ◌<◌, ◌≤◌, ◌==◌, ◌⊎◌, Bool, true, false, List, length, slice_index_or, count_by, Option}
use Rattle.std.specs.Bool.{Decides}
use Rattle.parent_loops.specs.Ancestors.{parent_of, ancestor, IsOwnAncestor}

-- when one was met
abbrev pub met_at : List ℕ → ℕ → ℕ
met_at order at = slice_index_or order at 0

-- how many weren't met
abbrev pub unmet : List ℕ → ℕ
unmet order = count_by (λ met. met == 0) order

-- of all that were met it is known whether they are their own ancestors, and their parents were met
pub record AreDecided (parents : List (Option ℕ)) (order : List ℕ) (loops : List Bool) (count : ℕ) : Type 0 where
  pub orders : length order ≡ length parents
  pub flags : length loops ≡ length parents
  pub room : count + unmet order ≤ length parents
  pub counted : (at : ℕ) → met_at order at ≤ count
  pub closed : (at : ℕ) → 0 < met_at order at → (length parents ≤ parent_of parents at) ⊎ (0 < met_at order (parent_of parents at))
  pub exact : (at : ℕ) → 0 < met_at order at → Decides (slice_index_or loops at false) (IsOwnAncestor parents at)
  pub unset : (at : ℕ) → met_at order at ≡ 0 → slice_index_or loops at false ≡ false

-- a walk met one after another from here on, and goes on at a place
pub record IsWalked (parents : List (Option ℕ)) (from first : ℕ) (old new : List ℕ) (count at : ℕ) : Type 0 where
  pub orders : length new ≡ length parents
  pub room : count + unmet new ≤ length parents
  pub forward : first ≤ count
  pub here : ancestor parents (count - first) from ≡ at
  pub counted : (one : ℕ) → met_at new one ≤ count
  pub kept : (one : ℕ) → met_at new one ≤ first → met_at new one ≡ met_at old one
  pub fresh : (one : ℕ) → first < met_at new one → met_at old one ≡ 0
  pub walked : (one : ℕ) → first < met_at new one → ancestor parents (met_at new one - (first + 1)) from ≡ one
  pub goes_on : (one : ℕ) → first < met_at new one → ((met_at new one ≡ count) × (parent_of parents one ≡ at)) ⊎ (met_at new (parent_of parents one) ≡ met_at new one + 1)
  pub begun : first < count → met_at new from ≡ first + 1

-- one and its ancestors, so many in all, are marked, and no other beside those that were
pub record AreMarked (parents : List (Option ℕ)) (from count : ℕ) (old new : List Bool) : Type 0 where
  pub flags : length new ≡ length old
  pub set : (steps : ℕ) → steps < count → slice_index_or new (ancestor parents steps from) false ≡ true
  pub only : (one : ℕ) → slice_index_or new one false ≡ true → (slice_index_or old one false ≡ true) ⊎ ((steps : ℕ) × (steps < count) × (ancestor parents steps from ≡ one))
  pub kept : (one : ℕ) → slice_index_or old one false ≡ true → slice_index_or new one false ≡ true
