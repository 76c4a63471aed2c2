-- Texts of ASCII alone.
use Rattle.std.specs.Prelude.{ℕ, nat_lt, Bool, List}
use Rattle.std.specs.List.{list_all}

-- whether all bytes are ASCII
abbrev pub is_ascii_text : List ℕ → Bool
is_ascii_text text = list_all (λ byte. nat_lt byte 128) text
