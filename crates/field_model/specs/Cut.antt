-- Texts that keep their first characters.
use Rattle.std.specs.Prelude.{ℕ, List, take}

-- how many characters of a label or of a field's text are kept
abbrev pub kept_characters : ℕ
kept_characters = 512

-- what is kept of a text
abbrev pub cut : List ℕ → List ℕ
cut text = take kept_characters text
