-- Quotes: the characters of a text, a space for each tab and break and between paragraphs, and the texts of its sequence and variable fields. All else is left out, a note with its paragraphs too.
use Rattle.std.specs.Prelude.{Bool, if◌then◌else◌, List, [], ◌∷◌, ◌++◌, map}
use Rattle.field_model.specs.Cut.{cut}
use Rattle.field_model.specs.declared.gathered.Piece.{Piece}
use Rattle.field_model.specs.declared.gathered.Piece.TheVariants.{Gap, Char, Number, Variable}
use Rattle.field_model.specs.Gathered.{Event, Head, Letter, Counted, Assigned, Asked, Cited, Marked, Other, in_note, is_in_note, spot, same_text}

-- pieces, and behind them further ones of the text that something stands in
abbrev pub pieces_and : Bool → Bool → List Piece → List Piece → List Piece
pieces_and noted stands_in_note before more = if same_text noted stands_in_note then before ++ more else before

-- what is quoted of all that was gathered, of the body or of all notes: each paragraph behind a gap
abbrev pub pieces : Bool → List Event → List Piece
pieces noted [] = []
pieces noted (Head place head label ∷ before) = pieces_and noted (is_in_note place) (pieces noted before) (Gap ∷ [])
pieces noted (Letter char ∷ before) = pieces_and noted (in_note before) (pieces noted before) (Char char ∷ [])
pieces noted (Counted name refname format ∷ before) = pieces_and noted (in_note before) (pieces noted before) (Number name format (spot before) ∷ [])
pieces noted (Assigned name value ∷ before) = pieces_and noted (in_note before) (pieces noted before) (map Char (cut value))
pieces noted (Asked name ∷ before) = pieces_and noted (in_note before) (pieces noted before) (Variable name (spot before) ∷ [])
pieces noted (Cited id class ∷ before) = pieces noted before
pieces noted (Marked name ∷ before) = pieces noted before
pieces noted (Other ∷ before) = pieces noted before
