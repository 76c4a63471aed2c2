-- Where paragraphs begin among what is quoted.
use Rattle.std.specs.Prelude.{Bool, true, false}
use Rattle.field_model.specs.declared.gathered.Piece.{Piece}
use Rattle.field_model.specs.declared.gathered.Piece.TheVariants.{Gap, Char, Number, Variable}

-- whether a piece is where a paragraph begins
abbrev pub is_gap : Piece → Bool
is_gap Gap = true
is_gap (Char char) = false
is_gap (Number name format here) = false
is_gap (Variable name here) = false
