-- Places in the order of the file.
use Rattle.std.specs.Prelude.{ℕ, ◌≤◌, List, [], ◌∷◌, map, nat_lt}
use Rattle.std.specs.List.{AllByRecursion as Each, prefix_len}
use Rattle.declared_names.specs.declared.names.DeclaredNames.{DeclaredNames}

-- the places of declarations that are kept, and those of first uses
abbrev pub kept_places : DeclaredNames → List ℕ
kept_places one = map (λ stated. stated.place) one.kept.items

abbrev pub used_places : DeclaredNames → List ℕ
used_places one = map (λ used. used.place) one.used.items

-- no place is greater than one behind it
abbrev pub IsRising : List ℕ → Type 0
IsRising [] = Unit {0}
IsRising (place ∷ places) = Each (λ other. place ≤ other) places × IsRising places

-- how many places at the front stand before one
abbrev pub below : ℕ → List ℕ → ℕ
below place places = prefix_len (λ other. nat_lt other place) places
