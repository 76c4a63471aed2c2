-- The last place of a list that passes a test.
use Rattle.std.specs.Prelude.{ℕ, ◌+◌, Bool, cond, List, [], ◌∷◌, Option, Some, None}

-- the last place behind the first item, or else the first one, if it passes
abbrev pub last_or_first : Bool → Option ℕ → Option ℕ
last_or_first passes (Some place) = Some (place + 1)
last_or_first passes None = cond passes (Some 0) None

-- the last place, counted from 0, of an item that passes
abbrev pub last_position : {X : Type 0} → (X → Bool) → List X → Option ℕ
last_position p [] = None
last_position p (x ∷ xs) = last_or_first (p x) (last_position p xs)
