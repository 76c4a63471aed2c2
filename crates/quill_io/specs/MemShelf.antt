-- A shelf in memory.
use Rattle.std.specs.Prelude.{ℕ, List, [], ◌∷◌, map, Option, None, Some, String, Vec, string_bytes, if◌then◌else◌}
use Rattle.std.specs.declared.alloc.Global.{Global}
use Rattle.std.specs.List.{IsDistinct}
use Rattle.std.specs.Str.{bytes_eq}

-- a file: its name, and its bytes
abbrev pub File : Type 0
File = List ℕ × List ℕ

-- what a shelf in memory holds, which of its calls are to fail, and how many calls and faults there were
pub record ShelfState : Type 0 where
  pub files : List File
  pub failing : List ℕ
  pub calls : ℕ
  pub faults : ℕ

-- the files as the code holds them, by the bytes of their names
abbrev pub files_of : List (String Global × Vec ℕ Global) → List File
files_of files = map (λ file. (string_bytes file.0, file.1.items)) files

-- the bytes of the first file of this name
abbrev pub bytes_at : List File → List ℕ → Option (List ℕ)
bytes_at [] name = None
bytes_at (file ∷ files) name = if bytes_eq name file.0 then Some file.1 else bytes_at files name

-- no two files have one name
abbrev pub HasDistinctNames : List File → Type 0
HasDistinctNames files = IsDistinct bytes_eq (map (λ (file : File). file.0) files)
