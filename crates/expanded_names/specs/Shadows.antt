-- What declarations shadow, and what is in force when they end.
use Rattle.std.specs.Prelude.{ℕ, if◌then◌else◌, List, [], ◌∷◌, Option, chars, string_bytes}
use Rattle.std.specs.Str.{bytes_eq}
use Rattle.expanded_names.specs.Scope.{unless_empty}
use Rattle.expanded_names.specs.declared.shadows.Shadow.{Shadow}

-- what is in force for each prefix
abbrev pub Force : Type 0
Force = List ℕ → Option (List ℕ)

-- what is in force when a shadow ends
abbrev pub without : Shadow → Force → Force
without shadow force prefix = if bytes_eq (chars (string_bytes shadow.prefix)) prefix then unless_empty (chars (string_bytes shadow.namespace)) else force prefix

-- what is in force when shadows end, the last one first
abbrev pub without_all : List Shadow → Force → Force
without_all [] force = force
without_all (shadow ∷ shadows) force = without shadow (without_all shadows force)
