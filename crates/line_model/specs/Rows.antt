-- The printed row of a line.
use Rattle.std.specs.Prelude.{ℕ, ◌+◌, ◌-◌, ◌/◌, ◌==◌, if◌then◌else◌, List, [], ◌∷◌, ◌++◌, map, take, replicate}
use Rattle.std.specs.List.{between}
use Rattle.doc_model.specs.declared.style.Align.{Align}
use Rattle.doc_model.specs.declared.style.Align.TheVariants.{Start, Center, End}
use Rattle.line_model.specs.declared.unit.TextUnit.{TextUnit}
use Rattle.line_model.specs.declared.key.Key.{Key}
use Rattle.line_model.specs.declared.key.Line.{Line}
use Rattle.line_model.specs.Units.{units_at}
use Rattle.line_model.specs.Lines.{lead, width, without_last_spaces, columns_of, end_of}

-- the columns before a line that misses so many: all of them, half of them, or none
abbrev pub shift : Align → ℕ → ℕ
shift Start missing = 0
shift Center missing = missing / 2
shift End missing = missing

-- the byte that is printed for one of a text: a space for a tab
abbrev pub printed_byte : ℕ → ℕ
printed_byte byte = if byte == 0x9 then 0x20 else byte

-- the row of a line of this text: the spaces before it, and the text without the spaces at its end. One that is only spaces prints nothing
abbrev pub row_of_text : Key → ℕ → List ℕ → List ℕ
row_of_text key from text = of_units (without_last_spaces (units_at 0 text)) where
  of_units : List TextUnit → List ℕ
  of_units [] = []
  of_units (unit ∷ units) =
      replicate (lead key from + shift key.align (width key from - columns_of (unit ∷ units))) 0x20
      ++ map printed_byte (take (end_of 0 (unit ∷ units)) text)

-- the printed row of a line of a key, in UTF-8
unfoldable pub printed_row : Key → Line → List ℕ
printed_row key line = row_of_text key line.from (between line.from line.to key.text)
