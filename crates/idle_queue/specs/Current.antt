-- The key of a paragraph that is in use.
use Rattle.std.specs.Prelude.{Bool, false, Option, Some, None}
use Rattle.line_model.specs.declared.key.Key.{Key}
use Rattle.line_model.specs.Keys.{is_same_key}

-- whether a key is the one in use, if there is one
abbrev pub is_current : Option Key → Key → Bool
is_current None key = false
is_current (Some current) key = is_same_key current key
