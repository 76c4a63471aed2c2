-- Why there is no text, with the status and the line that say so.
use Rattle.std.specs.Prelude.{ℕ, List, ◌++◌, codes, decimal}
use Rattle.doc_load.specs.declared.offence.Offence.{Offence}
use Rattle.file_save.specs.Lines.{offence_line}

-- a status, and a line with its line feed
pub record Stop : Type 0 where
  pub status : ℕ
  pub line : List ℕ

-- FILE isn't what a plain document is written as
abbrev pub not_plain : Stop
not_plain = record { status = 1; line = codes "refused: plain at 0\n" }

-- FILE has this offence
abbrev pub refused : Offence → Stop
refused offence = record { status = 1; line = offence_line offence }

-- the words aren't accepted
abbrev pub usage : Stop
usage = record { status = 2; line = codes "usage: quill run FILE SCRIPT / save FILE\n" }

-- the script's line of this number is the first that isn't a command
abbrev pub bad_line : ℕ → Stop
bad_line number = record { status = 3; line = codes "script: line " ++ (decimal number ++ codes "\n") }

-- there is no file of this name
abbrev pub absent : List ℕ → Stop
absent name = record { status = 4; line = codes "absent: " ++ (name ++ codes "\n") }

-- the shelf failed to give the file of this name
abbrev pub shelf_fault : List ℕ → Stop
shelf_fault name = record { status = 5; line = codes "shelf fault: " ++ (name ++ codes "\n") }

-- the output failed to take the text
abbrev pub output_fault : Stop
output_fault = record { status = 6; line = codes "output fault\n" }

-- there is no memory
abbrev pub no_memory : Stop
no_memory = record { status = 7; line = codes "no memory\n" }

-- the file of this name has more bytes than are read
abbrev pub too_long : List ℕ → Stop
too_long name = record { status = 8; line = codes "too long: " ++ (name ++ codes "\n") }
