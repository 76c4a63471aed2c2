-- The parts of a line, and what a line adds to the commands before it.
use Rattle.std.specs.Prelude.{◌≡◌, ◌≢◌, ℕ, ◌≤◌, ◌<◌, ◌^◌, true, List, [], ◌∷◌, ◌++◌, length, codes, Option, Some, None, ◌⊎◌}
use Rattle.std.specs.List.{AllByRecursion as Each}
use Rattle.std.specs.Char.{is_ascii_hexdigit}
use Rattle.std.specs.Str.Parse.{digits_value}
use Rattle.doc_model.specs.Chars.{IsPlainChar}
use Rattle.desk_model.specs.declared.script.ScriptCommand.{ScriptCommand}
use Rattle.desk_model.specs.declared.script.ScriptCommand.TheVariants as command
use Rattle.desk_model.specs.declared.script.Numbered.{Numbered}
use Rattle.desk_model.specs.Script.{IsNumber, IsLineText, SpellsChar, SpellsText, IsNumberLine, IsNameLine, IsCommandLine, IsSkipped}

-- what is found has the property; where nothing is found, nothing has it
abbrev pub Finds : {T : Type 0} → (T → Type 0) → Option T → Type 0
Finds holds None = (other : _) → holds other → ⊥
Finds holds (Some found) = holds found

-- the bytes are a number, a space and this rest
abbrev pub IsNumberThen : List ℕ → ℕ → List ℕ → Type 0
IsNumberThen bytes number rest = (digits : List ℕ) × IsNumber digits number × (bytes ≡ digits ++ (codes " " ++ rest))

-- hexadecimal digits, in either case, of a number below 2 ^ 8
abbrev pub IsHexValue : List ℕ → ℕ → Type 0
IsHexValue digits number = Each (λ digit. is_ascii_hexdigit digit ≡ true) digits × (digits_value 16 digits ≡ number) × (number < 2 ^ 8)

-- one to six of them
abbrev pub IsHexNumber : List ℕ → ℕ → Type 0
IsHexNumber digits number = (digits ≢ []) × (length digits ≤ 6) × IsHexValue digits number

-- the bytes stand for this character, of U+20 to U+7E, and go on with this rest
abbrev pub SpellsThen : List ℕ → ℕ → List ℕ → Type 0
SpellsThen bytes c rest = (front : List ℕ) × SpellsChar front c × IsPlainChar c × (bytes ≡ front ++ rest)

-- the bytes stand for this text, and a line can insert it
abbrev pub SpellsLineText : List ℕ → List ℕ → Type 0
SpellsLineText bytes text = IsLineText text × SpellsText bytes text

-- the bytes are these in quotes
abbrev pub IsQuoted : List ℕ → List ℕ → Type 0
IsQuoted bytes inside = bytes ≡ codes "\"" ++ (inside ++ codes "\"")

-- the bytes are the number of a paragraph, a place and these bytes in quotes
abbrev pub IsInsertion : List ℕ → ℕ → ℕ → List ℕ → Type 0
IsInsertion bytes par at inside = (after : List ℕ) × (quoted : List ℕ) × IsNumberThen bytes par after × IsNumberThen after at quoted × IsQuoted quoted inside

-- the line is a command of one word
abbrev pub IsWordLine : List ℕ → ScriptCommand → Type 0
IsWordLine line command.Undo = line ≡ codes "undo"
IsWordLine line command.Redo = line ≡ codes "redo"
IsWordLine line command.Turn = line ≡ codes "turn"
IsWordLine line command.Settle = line ≡ codes "settle"
IsWordLine line command.Save = line ≡ codes "save"
IsWordLine line command.Debt = line ≡ codes "debt"
IsWordLine line command.Version = line ≡ codes "version"
IsWordLine line _ = ⊥

-- the line is a command with a number
abbrev pub IsNumberCommand : List ℕ → ScriptCommand → Type 0
IsNumberCommand line (command.Page index) = IsNumberLine line (codes "page") index
IsNumberCommand line (command.Text par) = IsNumberLine line (codes "text") par.0
IsNumberCommand line _ = ⊥

-- the line is a command with a name
abbrev pub IsNameCommand : List ℕ → ScriptCommand → Type 0
IsNameCommand line (command.Take name) = IsNameLine line (codes "take") name
IsNameCommand line (command.Publish name) = IsNameLine line (codes "publish") name
IsNameCommand line _ = ⊥

-- the new commands are the old ones with that of the line with this number, unless it is skipped
abbrev pub AddsLine : ℕ → List ℕ → List Numbered → List Numbered → Type 0
AddsLine number line old new = (IsSkipped line × (new ≡ old))
    ⊎ ((¬ IsSkipped line) × (command : ScriptCommand) × IsCommandLine line command × (new ≡ old ++ record { line = number; command = command } ∷ []))

-- a character that is printed between quotes by itself or by its number
abbrev pub IsOther : ℕ → Type 0
IsOther c = (c ≢ 0x22) × (c ≢ 0x5c) × (c ≢ 0xa) × (c ≢ 0x9)
