-- Scripts: which lines are commands, and which commands they are.
use Rattle.std.specs.Prelude.{◌≡◌, ◌≢◌, ℕ, ◌+◌, ◌^◌, ◌<◌, ◌≤◌, ◌⊎◌, true, List, [], ◌∷◌, ◌++◌, length, codes}
use Rattle.std.specs.List.{AllByRecursion as Each}
use Rattle.std.specs.Char.{encode_utf8, IsScalar, IsAsciiDigit, is_ascii_hexdigit}
use Rattle.std.specs.Str.Parse.{digits_value}
use Rattle.std.specs.Str.Lines.{lines}
use Rattle.doc_model.specs.declared.edit.EditOp.{EditOp}
use Rattle.doc_model.specs.declared.edit.EditOp.TheVariants.{InsertText, DeleteRange}
use Rattle.doc_model.specs.Chars.{IsPlainChar}
use Rattle.desk_model.specs.declared.script.ScriptCommand.{ScriptCommand}
use Rattle.desk_model.specs.declared.script.ScriptCommand.TheVariants as command
use Rattle.desk_model.specs.declared.script.Numbered.{Numbered}

-- decimal digits of a number below 2 ^ 32, with or without leading zeros
abbrev pub IsNumber : List ℕ → ℕ → Type 0
IsNumber digits number = (digits ≢ []) × Each IsAsciiDigit digits × (digits_value 10 digits ≡ number) × (number < 2 ^ 32)

-- the bytes stand for this character between quotes: itself, but for quote and backslash, or one of \" \\ \n \t, or \u{H} with one to six hexadecimal digits
abbrev pub SpellsChar : List ℕ → ℕ → Type 0
SpellsChar bytes c =
    (IsScalar c × (c ≢ 0x22) × (c ≢ 0x5c) × (bytes ≡ encode_utf8 c))
    ⊎ ((c ≡ 0x22) × (bytes ≡ codes "\\\""))
    ⊎ ((c ≡ 0x5c) × (bytes ≡ codes "\\\\"))
    ⊎ ((c ≡ 0xa) × (bytes ≡ codes "\\n"))
    ⊎ ((c ≡ 0x9) × (bytes ≡ codes "\\t"))
    ⊎ ((digits : List ℕ) × (digits ≢ []) × (length digits ≤ 6) × Each (λ digit. is_ascii_hexdigit digit ≡ true) digits × (digits_value 16 digits ≡ c) × IsScalar c
    × (bytes ≡ codes "\\u{" ++ (digits ++ codes "}")))

-- the bytes stand for this text between quotes
abbrev pub SpellsText : List ℕ → List ℕ → Type 0
SpellsText bytes [] = bytes ≡ []
SpellsText bytes (c ∷ text) = (front : List ℕ) × (rest : List ℕ) × (bytes ≡ front ++ rest) × SpellsChar front c × SpellsText rest text

-- a text that a line can insert: at least one character, each of U+20 to U+7E
abbrev pub IsLineText : List ℕ → Type 0
IsLineText text = (text ≢ []) × Each IsPlainChar text

-- the line asks for this edit
abbrev pub IsEditLine : List ℕ → EditOp → Type 0
IsEditLine line (InsertText par at text) = (pars : List ℕ) × (ats : List ℕ) × (spelled : List ℕ) × IsNumber pars par.0 × IsNumber ats at × IsLineText text × SpellsText spelled text
    × (line ≡ codes "insert " ++ (pars ++ (codes " " ++ (ats ++ (codes " \"" ++ (spelled ++ codes "\""))))))
IsEditLine line (DeleteRange par from to) = (pars : List ℕ) × (froms : List ℕ) × (tos : List ℕ) × IsNumber pars par.0 × IsNumber froms from × IsNumber tos to
    × (line ≡ codes "delete " ++ (pars ++ (codes " " ++ (froms ++ (codes " " ++ tos)))))
IsEditLine line _ = ⊥

-- the line is an edit, a group of one
abbrev pub IsGroupOfOne : List ℕ → List EditOp → Type 0
IsGroupOfOne line [] = ⊥
IsGroupOfOne line (op ∷ []) = IsEditLine line op
IsGroupOfOne line (op ∷ other ∷ ops) = ⊥

-- a small letter a to z, or a digit
abbrev pub IsNameChar : ℕ → Type 0
IsNameChar c = ((0x61 ≤ c) × (c ≤ 0x7a)) ⊎ ((0x30 ≤ c) × (c ≤ 0x39))

-- a name for a job: one to sixteen small letters and digits
abbrev pub IsJobName : List ℕ → Type 0
IsJobName name = (name ≢ []) × (length name ≤ 16) × Each IsNameChar name

-- the line is this word, a space and a number
abbrev pub IsNumberLine : List ℕ → List ℕ → ℕ → Type 0
IsNumberLine line word number = (digits : List ℕ) × IsNumber digits number × (line ≡ word ++ (codes " " ++ digits))

-- the line is this word, a space and a name
abbrev pub IsNameLine : List ℕ → List ℕ → List ℕ → Type 0
IsNameLine line word name = IsJobName name × (line ≡ word ++ (codes " " ++ name))

-- the line is this command
abbrev pub IsCommandLine : List ℕ → ScriptCommand → Type 0
IsCommandLine line (command.Edit group) = IsGroupOfOne line group.0
IsCommandLine line command.Undo = line ≡ codes "undo"
IsCommandLine line command.Redo = line ≡ codes "redo"
IsCommandLine line (command.Take name) = IsNameLine line (codes "take") name
IsCommandLine line (command.Publish name) = IsNameLine line (codes "publish") name
IsCommandLine line command.Turn = line ≡ codes "turn"
IsCommandLine line command.Settle = line ≡ codes "settle"
IsCommandLine line (command.Page index) = IsNumberLine line (codes "page") index
IsCommandLine line (command.Text par) = IsNumberLine line (codes "text") par.0
IsCommandLine line command.Save = line ≡ codes "save"
IsCommandLine line command.Debt = line ≡ codes "debt"
IsCommandLine line command.Version = line ≡ codes "version"

-- a line that is skipped: it is empty, or begins with #
abbrev pub IsSkipped : List ℕ → Type 0
IsSkipped [] = Unit {0}
IsSkipped (c ∷ line) = c ≡ 0x23

-- a line that is neither skipped nor a command
abbrev pub IsBadLine : List ℕ → Type 0
IsBadLine line = ¬ IsSkipped line × ((command : ScriptCommand) → IsCommandLine line command → ⊥)

-- the commands of lines that are numbered from the given number on: a skipped line has none, and each other line is one
abbrev pub AreCommandsFrom : ℕ → List (List ℕ) → List Numbered → Type 0
AreCommandsFrom number [] commands = commands ≡ []
AreCommandsFrom number (line ∷ more) [] = IsSkipped line × AreCommandsFrom (number + 1) more []
AreCommandsFrom number (line ∷ more) (command ∷ commands) =
    (IsSkipped line × AreCommandsFrom (number + 1) more (command ∷ commands))
    ⊎ ((¬ IsSkipped line) × (command.line ≡ number) × IsCommandLine line command.command × AreCommandsFrom (number + 1) more commands)

-- the script is these commands
abbrev pub IsScript : List ℕ → List Numbered → Type 0
IsScript bytes commands = AreCommandsFrom 1 (lines bytes) commands

-- the line with this number, from 1, is the first bad one
abbrev pub IsFirstBadLine : List ℕ → ℕ → Type 0
IsFirstBadLine bytes number = (before : List (List ℕ)) × (line : List ℕ) × (after : List (List ℕ))
    × (lines bytes ≡ before ++ line ∷ after) × (length before + 1 ≡ number) × IsBadLine line × Each (λ other. IsBadLine other → ⊥) before
