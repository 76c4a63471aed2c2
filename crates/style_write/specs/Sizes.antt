-- Sizes as texts.
use Rattle.std.specs.Prelude.{ℕ, ◌/◌, List, ◌++◌, codes, decimal}
use Rattle.style_model.specs.Lengths.{six_digits}

-- a size in millionths of an inch
abbrev pub size_text : ℕ → List ℕ
size_text number = decimal (number / 1000000) ++ (codes "." ++ (six_digits number ++ codes "in"))
