-- The escapes for writing.
use Rattle.std.specs.Prelude.{◌≡◌, ℕ, ◌==◌, List, [], ◌∷◌, ◌++◌, codes, if◌then◌else◌, Option, Some, None}
use Rattle.std.specs.List.{flat_map}
use Rattle.markup_tree.specs.Pieces.{Holds, IsPlain}
use Rattle.markup_tree.specs.declared.part.Part.TheVariants.{Inside}

-- a character of character data
abbrev pub text_escape : ℕ → List ℕ
text_escape c =
    if c == 0x26 then codes "&amp;"
    else if c == 0x3c then codes "&lt;"
    else if c == 0x3e then codes "&gt;"
    else c ∷ []

-- a character of an attribute value in double quotes
abbrev pub value_escape : ℕ → List ℕ
value_escape c =
    if c == 0x22 then codes "&quot;"
    else if c == 0x9 then codes "&#9;"
    else if c == 0xa then codes "&#10;"
    else if c == 0xd then codes "&#13;"
    else text_escape c

-- a text as character data
abbrev pub escaped_text : List ℕ → List ℕ
escaped_text = flat_map text_escape

-- a text as an attribute value in double quotes
abbrev pub escaped_value : List ℕ → List ℕ
escaped_value = flat_map value_escape

-- character data up to markup: references and characters of the root, one after another, that hold these characters
abbrev pub IsCharacterData : List ℕ → Option (List ℕ) → List ℕ → Type 0
IsCharacterData text None after = ⊥
IsCharacterData text (Some characters) after = held text characters where
  held : List ℕ → List ℕ → Type 0
  held text [] = text ≡ codes "<" ++ after
  held text (c ∷ cs) = (rest : List ℕ) × IsPlain Inside text (Some (Holds (c ∷ []))) rest × held rest cs
