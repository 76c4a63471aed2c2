-- The characters that a document may have.
use Rattle.std.specs.Prelude.{◌≡◌, ℕ, ◌+◌, ◌==◌, nat_le, ◌&&◌, ◌||◌, Bool, if◌then◌else◌, List, [], ◌∷◌, ◌≤◌, ◌⊎◌, Option, None, Some}
use Rattle.std.specs.Option.{option_map}

-- the legal characters of XML: tab, line feed, carriage return, and all from U+20 on but surrogates, U+FFFE and U+FFFF
abbrev pub IsLegal : ℕ → Type 0
IsLegal c = (c ≡ 0x9) ⊎ (c ≡ 0xa) ⊎ (c ≡ 0xd) ⊎ ((0x20 ≤ c) × (c ≤ 0xd7ff)) ⊎ ((0xe000 ≤ c) × (c ≤ 0xfffd)) ⊎ ((0x10000 ≤ c) × (c ≤ 0x10ffff))

-- the legal characters from U+20 on
abbrev pub IsLegalText : ℕ → Type 0
IsLegalText c = IsLegal c × (0x20 ≤ c)

-- the characters of plain documents: U+20 to U+7E
abbrev pub IsPlainChar : ℕ → Type 0
IsPlainChar c = (0x20 ≤ c) × (c ≤ 0x7e)

-- whether a character may be typed into a paragraph: a tab, a line feed, or a legal character from U+20 on
abbrev pub can_be_typed : ℕ → Bool
can_be_typed c = c == 0x9 || c == 0xa || is_between 0x20 0xd7ff || is_between 0xe000 0xfffd || is_between 0x10000 0x10ffff where
  is_between : ℕ → ℕ → Bool
  is_between first last = nat_le first c && nat_le c last

-- how many characters stand before the first one that can't be typed, if there is one
abbrev pub first_untypable : List ℕ → Option ℕ
first_untypable [] = None
first_untypable (c ∷ cs) = if can_be_typed c then option_map (λ before. before + 1) (first_untypable cs) else Some 0
