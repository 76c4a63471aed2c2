-- Two lists, element by element.
use Rattle.std.specs.Prelude.{List, [], ◌∷◌}

-- each of the one list stands to that of the other, and both are as long
abbrev pub Pairwise : {X Y : Type 0} → (X → Y → Type 0) → List X → List Y → Type 0
Pairwise R [] [] = Unit {0}
Pairwise R (x ∷ xs) (y ∷ ys) = R x y × Pairwise R xs ys
Pairwise R _ _ = ⊥
