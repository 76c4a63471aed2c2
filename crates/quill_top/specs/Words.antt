-- The words of the command line, without the program's name.
use Rattle.std.specs.Prelude.{ℕ, ◌==◌, if◌then◌else◌, Bool, false, not, ◌&&◌, List, [], ◌∷◌, map, Option, None, Some, String, string_bytes, codes}
use Rattle.std.specs.declared.alloc.Global.{Global}
use Rattle.std.specs.Str.{bytes_eq}

-- the words as they are written
abbrev pub texts_of : List (String Global) → List (List ℕ)
texts_of words = map string_bytes words

-- whether a word can name a file: it isn't empty and doesn't begin with `-`
abbrev pub can_name : List ℕ → Bool
can_name [] = false
can_name (byte ∷ bytes) = not (byte == 0x2d)

-- the files that are named
pub record Names : Type 0 where
  pub file : List ℕ
  pub script : List ℕ

-- what words ask for: the script of a run over a file, or the canonical bytes of a file
pub data Task : Type 0 where
  Run : (names : Names) → Task
  Save : (file : List ℕ) → Task

-- `run FILE SCRIPT` and `save FILE`; no other words are accepted
abbrev pub accepted : List (List ℕ) → Option Task
accepted (mode ∷ file ∷ script ∷ []) =
    if bytes_eq mode (codes "run") && (can_name file && can_name script) then Some (Run (record { file = file; script = script })) else None
accepted (mode ∷ file ∷ []) = if bytes_eq mode (codes "save") && can_name file then Some (Save file) else None
accepted _ = None
