-- What the entries of a list and its spots keep.
use Rattle.std.specs.Prelude.{◌≡◌, ℕ, ◌+◌, ◌<◌, ◌^◌, List, [], ◌∷◌, ◌==◌, cond, All, AllPairs}
use Rattle.std.specs.List.Sorted.{IsNonDecreasing}
use Rattle.tagged_list.specs.declared.entry.Entry.{Entry}
use Rattle.tagged_list.specs.Entries.{keys_of, spots_of}

-- how often a number stands in a list
abbrev pub times : ℕ → List ℕ → ℕ
times x [] = 0
times x (y ∷ ys) = cond (y == x) 1 0 + times x ys

-- the numbers rise
abbrev pub Rises : List ℕ → Type 0
Rises xs = AllPairs (λ x y. x < y) xs

-- keys rise within 64 bits, and the spots are those of the entries in order
pub record Keeps {T : Type 0} (entries : List (Entry T)) (spots : List ℕ) : Type 0 where
  pub rising : Rises (keys_of entries)
  pub bounded : All (λ key. key < 2 ^ 64) (keys_of entries)
  pub sorted : IsNonDecreasing spots
  pub same : (spot : ℕ) → times spot spots ≡ times spot (spots_of entries)
