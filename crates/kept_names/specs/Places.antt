-- Places of a file.
use Rattle.std.specs.Prelude.{◌≡◌, ℕ, List}
use Rattle.load_model.specs.Met.{is_at}

-- the same places are among both
abbrev pub AreSame : List ℕ → List ℕ → Type 0
AreSame places others = (place : ℕ) → is_at places place ≡ is_at others place
